-- The letters and numbers of words, and what each word says.
use Rattle.std.specs.Prelude.{◌≡◌, ℕ, ◌+◌, ◌-◌, ◌*◌, ◌^◌, Bool, true, false, cond, not, ◌&&◌, ◌||◌, List, [], ◌∷◌, length, take, drop, ℤ, pos, neg_ℤ, Some, None, Option, ◌==◌, nat_le}
use Rattle.std.specs.List.{prefix_len, list_all}
use Rattle.units.specs.Measures.{places}
use Rattle.units.specs.declared.Measure.{Measure}
use Rattle.reader.specs.declared.number.Decimal.{Decimal}
use Rattle.reader.specs.declared.block.Motion.{Motion}
use Rattle.reader.specs.declared.block.Motion.TheVariants.{Rapid, Feed}
use Rattle.reader.specs.declared.block.OffsetChoice.{OffsetChoice}
use Rattle.reader.specs.declared.block.OffsetChoice.TheVariants.{Without, First, Second, Third, Fourth}
use Rattle.reader.specs.declared.block.Way.{Way}
use Rattle.reader.specs.declared.block.Way.TheVariants.{Absolute, Relative}
use Rattle.reader.specs.declared.block.Preparatory.{Preparatory}
use Rattle.reader.specs.declared.block.Preparatory.TheVariants.{OfMotion, OfOffset, OfWay}
use Rattle.reader.specs.declared.block.Value.{Value}
use Rattle.reader.specs.declared.block.Value.TheVariants as value
use Rattle.std.specs.Option.{option_map}
use Rattle.reader.specs.declared.part.Letter.{Letter}
use Rattle.reader.specs.declared.part.Letter.TheVariants.{N, G, X, F, M}

abbrev pub motion_code : Motion → ℕ
motion_code Rapid = 0
motion_code Feed = 1

abbrev pub offset_code : OffsetChoice → ℕ
offset_code Without = 53
offset_code First = 54
offset_code Second = 55
offset_code Third = 56
offset_code Fourth = 57

abbrev pub way_code : Way → ℕ
way_code Absolute = 90
way_code Relative = 91

-- whether the M number of a block ends a program: M02 or M30
abbrev pub ends_by : Option ℕ → Bool
ends_by None = false
ends_by (Some m) = m == 2 || m == 30

-- 0 to 9
abbrev pub digit : ℕ → Bool
digit b = nat_le 48 b && nat_le b 57

-- a digit, + or -, or a point
abbrev pub numeric : ℕ → Bool
numeric b = digit b || (b == 43 || (b == 45 || b == 46))

abbrev pub all_digits : List ℕ → Bool
all_digits bs = list_all digit bs

-- n with the digits bs written after it; 48 is 0
abbrev pub onto : ℕ → List ℕ → ℕ
onto n [] = n
onto n (b ∷ bs) = onto (n * 10 + (b - 48)) bs

abbrev pub upto : ℕ → ℕ → Option ℕ
upto most n = cond (nat_le n most) (Some n) None

-- whether a number begins with -
abbrev pub negative : List ℕ → Bool
negative [] = false
negative (b ∷ bs) = b == 45

-- a number without its sign
abbrev pub body : List ℕ → List ℕ
body [] = []
body (b ∷ bs) = cond (b == 45 || b == 43) bs (b ∷ bs)

-- the digits before the point, and what stands after them
abbrev pub whole : List ℕ → List ℕ
whole n = take (prefix_len digit (body n)) (body n)

abbrev pub after : List ℕ → List ℕ
after n = drop (prefix_len digit (body n)) (body n)

-- the decimals, where nothing or a point stands after the digits
abbrev pub fraction : List ℕ → Option (List ℕ)
fraction [] = Some []
fraction (b ∷ bs) = cond (b == 46) (Some bs) None

-- a number taken apart
abbrev pub Split : List ℕ → Option Decimal → Type 0
Split n None = fraction (after n) ≡ None
Split n (Some d) = (d.negative ≡ negative n) × (d.whole.now ≡ whole n) × (fraction (after n) ≡ Some d.decimals.now)

-- one to five digits, and at most as many decimals as a unit has
abbrev pub decimal : Measure → List ℕ → Option (List ℕ) → Bool
decimal m w None = false
decimal m w (Some d) = nat_le 1 (length w) && (nat_le (length w) 5 && (nat_le (length d) (places m) && all_digits d))

-- a number within its range
abbrev pub within : ℕ → ℕ → ℕ → Option ℕ
within least most n = cond (nat_le least n && nat_le n most) (Some n) None

abbrev pub signed : Bool → ℕ → ℤ
signed false n = pos n
signed true n = neg_ℤ (pos n)

-- a magnitude of at most 40,000,000 with its sign
abbrev pub limited : Bool → ℕ → Option ℤ
limited s n = cond (nat_le n 40000000) (Some (signed s n)) None

-- the digits w and the decimals d as one number of units
abbrev pub scaled : Measure → Bool → List ℕ → Option (List ℕ) → Option ℤ
scaled m s w None = None
scaled m s w (Some d) = limited s (onto (onto 0 w) d * 10 ^ (places m - length d))

-- a number in units
abbrev pub units_of : Measure → List ℕ → Option ℤ
units_of m n = scaled m (negative n) (whole n) (fraction (after n))

-- the capitals N G X F M
abbrev pub letter_of : ℕ → Option Letter
letter_of b = cond (b == 78) (Some N) (cond (b == 71) (Some G) (cond (b == 88) (Some X) (cond (b == 70) (Some F) (cond (b == 77) (Some M) None))))

-- the form of a word's number
abbrev pub formed : Measure → Letter → List ℕ → Bool
formed m N n = not (length n == 0) && all_digits n
formed m G n = length n == 2 && all_digits n
formed m X n = decimal m (whole n) (fraction (after n))
formed m F n = not (length n == 0) && all_digits n
formed m M n = length n == 2 && all_digits n

-- the G words that are known
abbrev pub preparatory : ℕ → Option Preparatory
preparatory n =
    cond (n == 0) (Some (OfMotion Rapid)) (cond (n == 1) (Some (OfMotion Feed))
    (cond (n == 53) (Some (OfOffset Without)) (cond (n == 54) (Some (OfOffset First)) (cond (n == 55) (Some (OfOffset Second)) (cond (n == 56) (Some (OfOffset Third)) (cond (n == 57) (Some (OfOffset Fourth))
    (cond (n == 90) (Some (OfWay Absolute)) (cond (n == 91) (Some (OfWay Relative)) None))))))))

-- the number of a G word
abbrev pub code_of : Preparatory → ℕ
code_of (OfMotion m) = motion_code m
code_of (OfOffset o) = offset_code o
code_of (OfWay w) = way_code w

-- what a word says, where its number is in range
abbrev pub value_of : Measure → Letter → List ℕ → Option Value
value_of m N n = option_map value.Number (within 1 9999 (onto 0 n))
value_of m G n = option_map value.Prepared (preparatory (onto 0 n))
value_of m X n = option_map value.Target (units_of m n)
value_of m F n = option_map value.Rate (within 1 65000 (onto 0 n))
value_of m M n = option_map value.Auxiliary (upto 99 (onto 0 n))

-- the order of the letters
abbrev pub rank : Letter → ℕ
rank N = 0
rank G = 1
rank X = 2
rank F = 3
rank M = 4

-- two G words of one group; one that is not known is in none
abbrev pub same_group : Option Preparatory → Option Preparatory → Bool
same_group None h = false
same_group (Some g) None = false
same_group (Some (OfMotion a)) (Some (OfMotion b)) = true
same_group (Some (OfMotion a)) (Some (OfOffset b)) = false
same_group (Some (OfMotion a)) (Some (OfWay b)) = false
same_group (Some (OfOffset a)) (Some (OfMotion b)) = false
same_group (Some (OfOffset a)) (Some (OfOffset b)) = true
same_group (Some (OfOffset a)) (Some (OfWay b)) = false
same_group (Some (OfWay a)) (Some (OfMotion b)) = false
same_group (Some (OfWay a)) (Some (OfOffset b)) = false
same_group (Some (OfWay a)) (Some (OfWay b)) = true
