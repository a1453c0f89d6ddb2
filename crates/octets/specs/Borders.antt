-- The borders of a literal, by which `contains` is searched in linear time (Knuth, Morris and Pratt).
use Rattle.std.specs.Prelude.{◌≡◌, List, ℕ, ◌+◌, ◌-◌, ◌≤◌, ◌<◌, length, get_or}

-- p laid at place h of t agrees with it in all bytes before place e
abbrev pub Agrees : List ℕ → List ℕ → ℕ → ℕ → Type 0
Agrees t p h e = (x j : ℕ) → x ≡ h + j → j < length p → x < e → get_or t x 0 ≡ get_or p j 0

-- the first k bytes of p end at place i of t; laid at an earlier place, not before `from`, p does not agree up to place e
pub record Longest (from : ℕ) (t p : List ℕ) (e i k : ℕ) : Type 0 where
  pub fits : from + k ≤ i
  pub here : Agrees t p (i - k) i
  pub none : (h : ℕ) → from ≤ h → h < i - k → Agrees t p h e → ⊥

-- the border of the first i bytes of p: their longest start, not the whole, that is also their end; it has k bytes
abbrev pub Border : List ℕ → ℕ → ℕ → Type 0
Border p i k = Longest 1 p p i i k

-- a list has the border of each start of p of 1 to n bytes
abbrev pub Borders : List ℕ → List ℕ → ℕ → Type 0
Borders p bs n = (i : ℕ) → i < n → Border p (i + 1) (get_or bs i 0)
