-- What a line is: blanks, words and remarks, each at its place.
use Rattle.std.specs.Prelude.{◌≡◌, ℕ, ◌+◌, ◌-◌, ◌*◌, ◌^◌, ◌≤◌, Bool, true, false, List, [], ◌∷◌, ◌++◌, length, Some, None, Option, ◌≢◌}
use Rattle.std.specs.List.{AllByRecursion}
use Rattle.units.specs.declared.Measure.{Measure}
use Rattle.reader.specs.declared.block.Preparatory.{Preparatory}
use Rattle.reader.specs.declared.block.Value.{Value}
use Rattle.reader.specs.declared.block.Value.TheVariants as value
use Rattle.reader.specs.declared.part.Letter.{Letter}
use Rattle.reader.specs.declared.part.Letter.TheVariants.{N, G, X, F, M}
use Rattle.reader.specs.Words.{digit, numeric, onto, signed, preparatory}
use Rattle.units.specs.Measures.{places}
use Rattle.reader.specs.Lines.{Piece, word, remark, inside}

-- each byte is of a kind; the first byte is not
abbrev pub AllOf : (ℕ → Bool) → List ℕ → Type 0
AllOf p bs = AllByRecursion (λ b. p b ≡ true) bs

abbrev pub Stops : (ℕ → Bool) → List ℕ → Type 0
Stops p [] = Unit {0}
Stops p (b ∷ bs) = p b ≡ false

-- the capitals N G X F M
abbrev pub byte_of : Letter → ℕ
byte_of N = 78
byte_of G = 71
byte_of X = 88
byte_of F = 70
byte_of M = 77

-- the sign of a number, none, + or -, and whether it makes it negative
pub data Sign : List ℕ → Bool → Type 0 where
  unsigned : Sign [] false
  plus : Sign (43 ∷ []) false
  minus : Sign (45 ∷ []) true

-- what stands after the whole digits, nothing or a point, and its decimals
pub data Fraction : List ℕ → List ℕ → Type 0 where
  without : Fraction [] []
  point : (d : List ℕ) → Fraction (46 ∷ d) d

-- a number with the sign s, at least one whole digit w and the decimals d
abbrev pub DecimalOf : List ℕ → Bool → List ℕ → List ℕ → Type 0
DecimalOf n s w d = (t : List ℕ) × (f : List ℕ) × (n ≡ t ++ (w ++ f)) × Sign t s × AllOf digit w × (1 ≤ length w) × Fraction f d × AllOf digit d

-- the form of a word's number
abbrev pub WellFormed : Measure → Letter → List ℕ → Type 0
WellFormed m N n = (1 ≤ length n) × AllOf digit n
WellFormed m G n = (length n ≡ 2) × AllOf digit n
WellFormed m X n = (s : Bool) × (w : List ℕ) × (d : List ℕ) × DecimalOf n s w d × (length w ≤ 5) × (length d ≤ places m)
WellFormed m F n = (1 ≤ length n) × AllOf digit n
WellFormed m M n = (length n ≡ 2) × AllOf digit n

-- The bytes of a line from a place on, read as parts: to the line's end, or to the byte where no well formed part starts.
pub data Reads (m : Measure) : ℕ → List ℕ → List Piece → Option ℕ → Type 0 where
  done : (at : ℕ) → Reads m at [] [] None
  blank : (at : ℕ) (bs : List ℕ) (ps : List Piece) (o : Option ℕ) → Reads m (at + 1) bs ps o → Reads m at (32 ∷ bs) ps o
  a_word : (at : ℕ) (l : Letter) (n bs : List ℕ) (ps : List Piece) (o : Option ℕ) → AllOf numeric n → Stops numeric bs → WellFormed m l n → Reads m (at + 1 + length n) bs ps o → Reads m at (byte_of l ∷ (n ++ bs)) (word l n at ∷ ps) o
  a_remark : (at : ℕ) (t bs : List ℕ) (ps : List Piece) (o : Option ℕ) → AllOf inside t → Reads m (at + 2 + length t) bs ps o → Reads m at (40 ∷ (t ++ (41 ∷ bs))) (remark t at ∷ ps) o
  ill_formed : (at : ℕ) (l : Letter) (n bs : List ℕ) → AllOf numeric n → Stops numeric bs → (WellFormed m l n → ⊥) → Reads m at (byte_of l ∷ (n ++ bs)) [] (Some at)
  unclosed : (at : ℕ) (t : List ℕ) → AllOf inside t → Reads m at (40 ∷ t) [] (Some at)
  unknown : (at b : ℕ) (bs : List ℕ) → (b ≢ 32) → (b ≢ 40) → ((l : Letter) → b ≢ byte_of l) → Reads m at (b ∷ bs) [] (Some at)

-- what a word says
pub data Says (m : Measure) : Letter → List ℕ → Value → Type 0 where
  number : (n : List ℕ) → 1 ≤ onto 0 n → onto 0 n ≤ 9999 → Says m N n (value.Number (onto 0 n))
  prepared : (n : List ℕ) (g : Preparatory) → preparatory (onto 0 n) ≡ Some g → Says m G n (value.Prepared g)
  target : (n w d : List ℕ) (s : Bool) (x : ℕ) → DecimalOf n s w d → x ≡ onto 0 (w ++ d) * 10 ^ (places m - length d) → x ≤ 40000000 → Says m X n (value.Target (signed s x))
  rate : (n : List ℕ) → 1 ≤ onto 0 n → onto 0 n ≤ 65000 → Says m F n (value.Rate (onto 0 n))
  auxiliary : (n : List ℕ) → onto 0 n ≤ 99 → Says m M n (value.Auxiliary (onto 0 n))
