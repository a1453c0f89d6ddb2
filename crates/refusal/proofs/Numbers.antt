-- A refusal's number is never 0, which stands for none.
use Rattle.std.proofs.Common.{◌≡◌, ◌<◌, false, eqb, refl, arith, ne_eqb}
use Rattle.refusal.specs.declared.Refusal.{Refusal}
use Rattle.refusal.specs.declared.Refusal.TheVariants.{Token, Grammar, Limit, Call, Kind, Nesting, Entries, Stack, Buffer, Length, Notice, Table, Name, Present, Room, Size, Index, Pattern, Staff, Person, Needed, Syntax, Content, Tables, Edition, Store, Numbers, StoreRoom, Number, Header}
use Rattle.refusal.specs.Refusal.{number_of}

pub positive : (r : Refusal) → 0 < number_of r
positive (Token place) = omega arith
positive (Grammar place) = omega arith
positive (Limit place) = omega arith
positive Call = omega arith
positive Kind = omega arith
positive Nesting = omega arith
positive Entries = omega arith
positive Stack = omega arith
positive Buffer = omega arith
positive Length = omega arith
positive (Notice place) = omega arith
positive Table = omega arith
positive Name = omega arith
positive Present = omega arith
positive Room = omega arith
positive Size = omega arith
positive Index = omega arith
positive Pattern = omega arith
positive Staff = omega arith
positive Person = omega arith
positive Needed = omega arith
positive Syntax = omega arith
positive Content = omega arith
positive Tables = omega arith
positive Edition = omega arith
positive Store = omega arith
positive Numbers = omega arith
positive StoreRoom = omega arith
positive Number = omega arith
positive Header = omega arith

pub refuses : {A : Type 0} (r : Refusal) → number_of r ≡ 0 → A
refuses r e = let p = positive r in absurd (omega arith)

pub not_zero : (r : Refusal) → eqb (number_of r) 0 ≡ false
not_zero r = ne_eqb (number_of r) 0 (λ e. refuses r e)
