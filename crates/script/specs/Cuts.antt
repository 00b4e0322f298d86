-- A text cut in two at the first place of a mark.
use Rattle.std.specs.Prelude.{◌≡◌, ℕ, List, ◌∷◌, ◌++◌, Some, None, Option, ◌≢◌}
use Rattle.std.specs.Borrow.{Bor}
use Rattle.std.specs.List.{All}

-- no byte of the front is the mark; without a mark the front is all
abbrev pub Cut : ℕ → List ℕ → List ℕ → Option (Bor (List ℕ)) → Type 0
Cut mark text front (Some rest) = All (λ b. b ≢ mark) front × (text ≡ front ++ (mark ∷ rest.now))
Cut mark text front None = All (λ b. b ≢ mark) front × (text ≡ front)
