-- The numbers of documents 01 and 02, "Refusals by number", and the places that go with them.
use Rattle.std.specs.Prelude.{ℕ}
use Rattle.refusal.specs.declared.Refusal.{Refusal}
use Rattle.refusal.specs.declared.Refusal.TheVariants.{Token, Grammar, Limit, Call, Kind, Nesting, Entries, Stack, Buffer, Length, Notice, Table, Name, Present, Room, Size, Index, Pattern, Staff, Person, Needed, Syntax, Content, Tables, Edition, Store, Numbers, StoreRoom, Number, Header}

abbrev pub number_of : Refusal → ℕ
number_of (Token place) = 1
number_of (Grammar place) = 2
number_of (Limit place) = 3
number_of Call = 4
number_of Kind = 5
number_of Nesting = 6
number_of Entries = 7
number_of Stack = 8
number_of Buffer = 9
number_of Length = 10
number_of (Notice place) = 11
number_of Table = 12
number_of Name = 13
number_of Present = 14
number_of Room = 15
number_of Size = 16
number_of Index = 17
number_of Pattern = 18
number_of Staff = 19
number_of Person = 20
number_of Needed = 21
number_of Syntax = 22
number_of Content = 23
number_of Tables = 24
number_of Edition = 25
number_of Store = 26
number_of Numbers = 27
number_of StoreRoom = 28
number_of Number = 29
number_of Header = 30

-- "place": 0 where there is none.
abbrev pub place_of : Refusal → ℕ
place_of (Token place) = place
place_of (Grammar place) = place
place_of (Limit place) = place
place_of Call = 0
place_of Kind = 0
place_of Nesting = 0
place_of Entries = 0
place_of Stack = 0
place_of Buffer = 0
place_of Length = 0
place_of (Notice place) = place
place_of Table = 0
place_of Name = 0
place_of Present = 0
place_of Room = 0
place_of Size = 0
place_of Index = 0
place_of Pattern = 0
place_of Staff = 0
place_of Person = 0
place_of Needed = 0
place_of Syntax = 0
place_of Content = 0
place_of Tables = 0
place_of Edition = 0
place_of Store = 0
place_of Numbers = 0
place_of StoreRoom = 0
place_of Number = 0
place_of Header = 0
