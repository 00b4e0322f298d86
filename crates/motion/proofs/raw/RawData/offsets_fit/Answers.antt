use Rattle.std.proofs.Common.{◌≡◌, ◌∙◌, Bool, true, false, ◌&&◌, ℤ, pos, List, [], ◌∷◌, length, get_or, refl, rules, tests, arith}
use Rattle.std.specs.List.{list_all}
use Rattle.std.proofs.lemmas.Iterator.{YieldsList-from_slice}
use Rattle.std.proofs.lemmas.Iterator.Search.{all_from_yields_List}
use Rattle.std.proofs.lemmas.Bool.Decides.{Decides-at}
use Rattle.motion.specs.Questions.{reachable, offsets}
use Rattle.motion.proofs.Questions.{offsets_decides}
use Rattle.motion.proofs.raw.RawData.offsets_fit.Goals as goal

pairs : (a b c d : Bool) → (a && (b && (c && (d && true)))) ≡ ((a && b) && (c && d))
pairs false b c d = refl
pairs true false c d = refl
pairs true true false d = refl
pairs true true true false = refl
pairs true true true true = refl

all_of_four : (xs : List ℤ) → length xs ≡ 4
    → list_all reachable xs ≡ ((reachable (get_or xs 0 (pos 0)) && reachable (get_or xs 1 (pos 0))) && (reachable (get_or xs 2 (pos 0)) && reachable (get_or xs 3 (pos 0))))
all_of_four [] e = absurd (omega arith)
all_of_four (a ∷ []) e = absurd (omega arith)
all_of_four (a ∷ b ∷ []) e = absurd (omega arith)
all_of_four (a ∷ b ∷ c ∷ []) e = absurd (omega arith)
all_of_four (a ∷ b ∷ c ∷ d ∷ []) e = pairs (reachable a) (reachable b) (reachable c) (reachable d)
all_of_four (a ∷ b ∷ c ∷ d ∷ x ∷ xs) e = absurd (omega arith)

value : (c : goal.After-all) → c.all.result ≡ offsets c.args.self.now
value c =
    all_from_yields_List reachable _ _ _ c.all.ensures.ran (YieldsList-from_slice c.args.self.now.offsets (cc)) (λ x b q k. search (rules, tests))
    ∙ all_of_four c.args.self.now.offsets (search rules)

pub returns-clause-value : goal.returns-clause-value
returns-clause-value = value

pub returns-clause-means : goal.returns-clause-means
returns-clause-means c = Decides-at _ _ (value c) (offsets_decides c.args.self.now)
