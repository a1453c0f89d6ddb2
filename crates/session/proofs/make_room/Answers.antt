-- `session::make_room` meets its contract: by whether a longest record has room. Assumes nothing.
use Rattle.session.proofs.Steps.{room_made, room_there}
use Rattle.session.proofs.make_room.Goals as goal

pub returns-then-input-end-lt16384 : goal.returns-then-input-end-lt16384
returns-then-input-end-lt16384 c =
    let p = c.requires in
    room_made p.0 p.1 _ c.if-input-end-lt16384.true c.move_down.ensures

pub returns : goal.returns
returns c = room_there c.requires.0 c.requires.1 c.if-input-end-lt16384.false
