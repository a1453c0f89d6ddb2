-- Document 01's P cases, that with 9223372036854775807L as request 6 of document 02 has it ("turns from bottom to false"), request 9's shifts and the texts of requests 1 and 13, of the meaning of the text itself, from its bytes. The proofs are in proofs/Theorems.antt, under the same names.
use Rattle.std.specs.Prelude.{◌≡◌, List, [], ◌∷◌, ℕ, ◌+◌, length}
use Rattle.std.proofs.Math.Option.{some}
use Rattle.common.specs.Each.{Each}
use Rattle.truth.specs.declared.Truth.{Truth}
use Rattle.truth.specs.declared.Truth.TheVariants.{False, Bottom, True}
use Rattle.opcode.specs.declared.Edition.{Edition}
use Rattle.lexer.specs.Ascii.{ascii}
use Rattle.meaning.specs.Meaning.{text_meaning}

pub record Case : Type 0 where
  pub text : List ℕ
  pub notice : List ℕ
  pub verdict : Truth

-- the notice with the field `Op`, int32 42, and the empty notice
abbrev pub op42 : List ℕ
op42 = 0x0f ∷ 0 ∷ 0 ∷ 0 ∷ 1 ∷ 0 ∷ 1 ∷ 0 ∷ 9 ∷ 0 ∷ 1 ∷ 0 ∷ 2 ∷ 0x4f ∷ 0x70 ∷ 0x2a ∷ 0 ∷ 0 ∷ 0 ∷ []

abbrev pub empty : List ℕ
empty = 4 ∷ 0 ∷ 0 ∷ 0 ∷ 1 ∷ 0 ∷ 0 ∷ 0 ∷ []

abbrev pub cases : List Case
cases =
    record { text = ascii "Op == 42"; notice = op42; verdict = True }
    ∷ record { text = ascii "Op != 42"; notice = empty; verdict = Bottom }
    ∷ record { text = ascii "Op == 1 && 1 == 2"; notice = empty; verdict = False }
    ∷ record { text = ascii "1 == 2 && Op == 42"; notice = empty; verdict = False }
    ∷ record { text = ascii "1 == 1 ^^ 2 == 2"; notice = empty; verdict = False }
    ∷ record { text = ascii "2 + 3 * 4 & 6 == 14"; notice = empty; verdict = True }
    ∷ record { text = ascii "-7 / 2 == -3"; notice = empty; verdict = True }
    ∷ record { text = ascii "2147483647 + 1 == 2147483648L"; notice = empty; verdict = True }
    ∷ record { text = ascii "9223372036854775807L + 1 == 0"; notice = empty; verdict = False }
    ∷ record { text = ascii "-1 >>> 28 == 15"; notice = empty; verdict = True }
    ∷ record { text = ascii "1 / 0 == 0 || 1 == 1"; notice = empty; verdict = True }
    ∷ []

-- Every P case's text means its verdict on its notice, in both editions.
abbrev pub PCases : Type 0
PCases = (e : Edition) → Each (λ x. text_meaning e x.text x.notice ≡ some x.verdict) cases

-- Request 9: "document 01 gives bottom", and in the second edition "-1 shifts an int32 by 31"; a count from 0 to width less 1 is the same in both.
pub record Shifted : Type 0 where
  pub text : List ℕ
  pub first : Truth
  pub second : Truth

abbrev pub shifts : List Shifted
shifts =
    record { text = ascii "1 << -1 == 1 << 31"; first = Bottom; second = True }
    ∷ record { text = ascii "-8 >> 33 == -4"; first = Bottom; second = True }
    ∷ record { text = ascii "-1 >>> -4 == 15"; first = Bottom; second = True }
    ∷ record { text = ascii "1L << 64 == 1"; first = Bottom; second = True }
    ∷ record { text = ascii "1 << 1.0 == 2"; first = Bottom; second = Bottom }
    ∷ record { text = ascii "-8 >> 1 == -4"; first = True; second = True }
    ∷ []

-- Each of these texts means its verdict of each edition, on the empty notice.
abbrev pub ShiftCases : Type 0
ShiftCases =
    Each (λ x. (text_meaning Edition.First x.text empty ≡ some x.first) × (text_meaning Edition.Second x.text empty ≡ some x.second)) shifts

-- a notice with the string field `Cab`, of four bytes
abbrev pub cab : List ℕ → List ℕ
cab value = 0x10 ∷ 0 ∷ 0 ∷ 0 ∷ 1 ∷ 0 ∷ 1 ∷ 0 ∷ 10 ∷ 0 ∷ 4 ∷ 0 ∷ 3 ∷ 0x43 ∷ 0x61 ∷ 0x62 ∷ value

-- "Dispatch wants `wildcard (Cab, "T-4?", "V*")`."
abbrev pub wanted : List ℕ
wanted = ascii "wildcard (Cab, \"T-4?\", \"V*\")"

abbrev pub cabs : List Case
cabs =
    record { text = wanted; notice = cab (ascii "T-47"); verdict = True }
    ∷ record { text = wanted; notice = cab (ascii "V-12"); verdict = True }
    ∷ record { text = wanted; notice = cab (ascii "T-51"); verdict = False }
    ∷ record { text = wanted; notice = empty; verdict = Bottom }
    ∷ []

-- Request 1's text means these verdicts.
abbrev pub CabCases : Type 0
CabCases = (e : Edition) → Each (λ x. text_meaning e x.text x.notice ≡ some x.verdict) cabs

-- a notice with the string field `User`
abbrev pub user : List ℕ → List ℕ
user value = (13 + length value) ∷ 0 ∷ 0 ∷ 0 ∷ 1 ∷ 0 ∷ 1 ∷ 0 ∷ (7 + length value) ∷ 0 ∷ 4 ∷ 0 ∷ 4 ∷ 0x55 ∷ 0x73 ∷ 0x65 ∷ 0x72 ∷ value

-- "Head office sends `regex (User, "[Ss]egall?")`."
abbrev pub sent : List ℕ
sent = ascii "regex (User, \"[Ss]egall?\")"

abbrev pub users : List Case
users =
    record { text = sent; notice = user (ascii "Segal"); verdict = True }
    ∷ record { text = sent; notice = user (ascii "m segalls"); verdict = True }
    ∷ record { text = sent; notice = user (ascii "SEGALL"); verdict = False }
    ∷ record { text = sent; notice = empty; verdict = Bottom }
    ∷ []

-- Request 13's text means these verdicts.
abbrev pub RegexCases : Type 0
RegexCases = (e : Edition) → Each (λ x. text_meaning e x.text x.notice ≡ some x.verdict) users
