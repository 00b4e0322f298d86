-- The M number that an axis shows is that of the blocks which it has taken.
use Rattle.std.proofs.Common.{◌≡◌, ℕ, Bool, true, false, cond, List, [], ◌∷◌, ◌++◌, Some, None, Option, refl, sym, ap, ◌∙◌}
use Rattle.std.specs.Option.{unwrap_or, option_or}
use Rattle.reader.specs.declared.block.Block.{Block}
use Rattle.states.specs.State.{Work, AxisState}
use Rattle.laws.specs.Acts.{Event, step, new_axis, after}
use Rattle.laws.specs.Kept.{Kept}
use Rattle.orders.specs.Modes.{runs_programs}
use Rattle.laws.specs.Blocks.{taken_next, blocks_taken, last_m, MNumber}
use Rattle.laws.proofs.Invariant.{act_keeps, run_keeps, new_keeps}
use Rattle.laws.proofs.Takes.{act_takes}

-- in modes 8 and 9 it is the last M of the blocks taken
abbrev Shows : List Block → Work → Type 0
Shows bs w = runs_programs w.mode ≡ true → w.auxiliary ≡ unwrap_or (last_m bs) 2

-- one block more
or_assoc : (a b c : Option ℕ) → option_or (option_or a b) c ≡ option_or a (option_or b c)
or_assoc None b c = refl
or_assoc (Some m) b c = refl

or_none : (o : Option ℕ) → option_or None o ≡ option_or o None
or_none None = refl
or_none (Some m) = refl

last_more : (bs : List Block) (b : Block) → last_m (bs ++ b ∷ []) ≡ option_or b.auxiliary (last_m bs)
last_more [] b = or_none b.auxiliary
last_more (x ∷ bs) b = ap (λ (o : Option ℕ). option_or o x.auxiliary) (last_more bs b) ∙ or_assoc b.auxiliary (last_m bs) x.auxiliary

or_else : (a b : Option ℕ) → unwrap_or a (unwrap_or b 2) ≡ unwrap_or (option_or a b) 2
or_else None b = refl
or_else (Some m) b = refl

more_shown : (bs : List Block) (b : Block) (m n : ℕ) → m ≡ unwrap_or (last_m bs) 2 → n ≡ unwrap_or b.auxiliary m
    → n ≡ unwrap_or (last_m (bs ++ b ∷ [])) 2
more_shown bs b m n e i =
    i ∙ ap (unwrap_or b.auxiliary) e ∙ or_else b.auxiliary (last_m bs)
    ∙ ap (λ (o : Option ℕ). unwrap_or o 2) (sym (last_more bs b))

-- each act
act_shows : (e : Event) (a : AxisState) (bs : List Block) → Kept a → Shows bs a.status.work
    → Shows (taken_next e a bs) (step e a).status.work
act_shows e a bs k h =
    let w = a.status.work in
    act_takes e.programs a bs Shows (λ n v s i ph f. i)
    (λ c b v ph i j l s f. more_shown bs b w.auxiliary v.auxiliary (h (ap runs_programs (sym j) ∙ f)) l)
    (λ v s c f. (s k.shown f).1 ∙ h (s k.shown f).0) e.act

run_shows : (es : List Event) (a : AxisState) (bs : List Block) → Kept a → Shows bs a.status.work
    → Shows (blocks_taken a es bs) (after a es).status.work
run_shows [] a bs k h = h
run_shows (e ∷ es) a bs k h =
    run_shows es (step e a) (taken_next e a bs) (act_keeps e.act e.programs a k) (act_shows e a bs k h)

-- in every mode
shown_by_mode : (b : Bool) (m n : ℕ) → (b ≡ true → m ≡ n) → (b ≡ false → m ≡ 2) → m ≡ cond b n 2
shown_by_mode true m n h q = h refl
shown_by_mode false m n h q = q refl

pub m_number : MNumber
m_number m s es =
    let a = after (new_axis m) es in
    let w = a.status.work in
    shown_by_mode (runs_programs w.mode) w.auxiliary _ (run_shows es (new_axis m) [] (new_keeps m s) (λ f. refl))
    (λ f. ((run_keeps es (new_axis m) (new_keeps m s)).shown f).0)
