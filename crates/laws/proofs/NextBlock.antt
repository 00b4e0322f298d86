-- A program that runs or is held has a next block unless the block under way ends it, as long as each stored program goes on
-- after every block but the one that ends it.
use Rattle.std.proofs.Common.{◌≡◌, ℕ, ◌+◌, true, false, not, List, is_some, Some, None, Option, refl, sym, ap, ◌∙◌}
use Rattle.reader.specs.declared.block.Block.{Block}
use Rattle.reader.specs.Words.{ends_by}
use Rattle.store.specs.Programs.{Program, Programs, found, block_at, block_in}
use Rattle.states.specs.State.{Course, AxisState, Phase}
use Rattle.ticks.specs.Blocks.{next_block}
use Rattle.laws.specs.Acts.{Act, act_step}
use Rattle.laws.proofs.InUse.{InPhase, act_using}
use Rattle.laws.proofs.Held.{begins_stored}

-- there is a first block, and one after each but the one that ends the program
abbrev pub GoesOn : List Block → Type 0
GoesOn bs =
    (is_some (block_at bs 0) ≡ true)
    × ((k : ℕ) (b : Block) → block_at bs k ≡ Some b → is_some (block_at bs (k + 1)) ≡ not (ends_by b.auxiliary))

abbrev pub AllGoOn : Programs → Type 0
AllGoOn p = (n : ℕ) (q : Program) → found n p.stored ≡ Some q → GoesOn q.blocks

-- amid a block another one is to come just where that does not end the program
abbrev pub NextUnlessEnded : Programs → Course → Type 0
NextUnlessEnded p c = is_some (next_block p c) ≡ not (ends_by c.auxiliary)

-- between blocks one is to come, and the last one did not end the program
abbrev pub HasNext : Programs → Course → Type 0
HasNext p c = (is_some (next_block p c) ≡ true) × (ends_by c.auxiliary ≡ false)

abbrev pub NextIn : Programs → Phase → Type 0
NextIn p ph = InPhase (NextUnlessEnded p) (HasNext p) ph

-- the first block of a stored program, and the one after a block of it
first_in : (p : Programs) (n : ℕ) (o : Option Program) → AllGoOn p → found n p.stored ≡ o → is_some o ≡ true
    → is_some (block_in o 0) ≡ true
first_in p n None g e h = h
first_in p n (Some q) g e h = (g n q e).0

later_in : (p : Programs) (n k : ℕ) (b : Block) (o : Option Program) → AllGoOn p → found n p.stored ≡ o
    → block_in o k ≡ Some b → is_some (block_in o (k + 1)) ≡ not (ends_by b.auxiliary)
later_in p n k b None g e h = cc
later_in p n k b (Some q) g e h = (g n q e).1 k b h

pub act_next : (act : Act) (p : Programs) (a : AxisState) → AllGoOn p → NextIn p a.status.work.phase
    → NextIn p (act_step act p a).status.work.phase
act_next act p a g u =
    act_using (λ r c. NextUnlessEnded p c) (λ r c. HasNext p c) (λ r c n. n.0 ∙ ap not (sym n.1)) (λ r c n e. (n ∙ ap not e, e)) act p a
    (λ o d r y. (first_in p o.byte (found o.byte p.stored) g refl (begins_stored o p d y), refl))
    (λ c b e n. later_in p c.program c.taken b (found c.program p.stored) g refl e) u
