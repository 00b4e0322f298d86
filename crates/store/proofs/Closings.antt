-- The closing question, followed block by block, says what it should.
use Rattle.std.proofs.Common.{◌≡◌, ℕ, suc, ◌+◌, ◌-◌, ◌<◌, Bool, true, false, not, eqb, List, [], ◌∷◌, ◌++◌, length, get_or, drop, is_some, Some, None, Ok, Err, Option, unwrap_or, sym, refl, ap, ◌∙◌, subst, inl, inr, arith, eqb-true, cond, Result}
use Rattle.std.specs.Option.{option_or}
use Rattle.std.proofs.lemmas.List.{at_drop_more, length-drop}
use Rattle.std.proofs.lemmas.Bool.{and_parts, cases_lt, eq-eqb, ne_eqb, false≢true}
use Rattle.reader.specs.declared.block.Motion.{Motion}
use Rattle.reader.specs.declared.block.Motion.TheVariants.{Rapid, Feed}
use Rattle.reader.specs.declared.block.Block.{Block}
use Rattle.store.specs.declared.fault.StoreFault.{StoreFault}
use Rattle.store.specs.declared.fault.StoreFault.TheVariants.{NotClosable, NotOpen}
use Rattle.store.specs.Programs.{Program, Programs}
use Rattle.store.specs.Closing.{ends, fed, fits_at, is_empty, each_fits, closable}
use Rattle.store.specs.Entry.{end_reply, close_reply, close_reply_of, closed}
use Rattle.store.specs.Laws.{motion_after, EndsOnce, Fed, Closes}

-- a block that does not fit, by its place
empty-length : (bs : List Block) → is_empty bs ≡ eqb (length bs) 0
empty-length [] = refl
empty-length (b ∷ bs) = sym (ne_eqb (suc (length bs)) 0 (λ e. omega arith))

last_empty : (bs : List Block) (i : ℕ) → i < length bs → is_empty (drop (i + 1) bs) ≡ eqb (i + 1) (length bs)
last_empty bs i h =
    empty-length (drop (i + 1) bs) ∙ ap (λ k. eqb k 0) (length-drop (i + 1) bs)
    ∙ (elim (cases_lt (i + 1) (length bs)) [
      | inl l ↦ ne_eqb (length bs - (i + 1)) 0 (λ e. omega arith) ∙ sym (ne_eqb (i + 1) (length bs) (λ e. omega arith))
      | inr g ↦ eq-eqb (length bs - (i + 1)) 0 (omega arith) ∙ sym (eq-eqb (i + 1) (length bs) (omega arith))
    ])

pub misfit : (bs : List Block) (i : ℕ) (d : Block) (g : Motion) (f : Option ℕ) → i < length bs
    → fits_at (eqb (i + 1) (length bs)) (unwrap_or (get_or bs i d).motion g) (option_or (get_or bs i d).feed f) (get_or bs i d) ≡ false
    → each_fits g f (drop i bs) ≡ each_fits Rapid None bs → closable bs ≡ false
misfit bs i d g f l bad inv =
    let here : each_fits g f (drop i bs) ≡ each_fits g f (get_or bs i d ∷ drop (i + 1) bs) = at_drop_more (each_fits g f) bs i d l in
    let last : is_empty (drop (i + 1) bs) ≡ eqb (i + 1) (length bs) = last_empty bs i l in
    grind arith

-- the closing question says what it should
abbrev feed_after : Option ℕ → List Block → Option ℕ
feed_after f [] = f
feed_after f (b ∷ bs) = feed_after (option_or b.feed f) bs

fits_there : (g : Motion) (f : Option ℕ) (front : List Block) (b : Block) (later : List Block) → each_fits g f (front ++ b ∷ later) ≡ true → fits_at (is_empty later) (motion_after g (front ++ b ∷ [])) (feed_after f (front ++ b ∷ [])) b ≡ true
fits_there g f [] b later e = (and_parts (fits_at (is_empty later) (unwrap_or b.motion g) (option_or b.feed f) b) (each_fits (unwrap_or b.motion g) (option_or b.feed f) later) e).0
fits_there g f (x ∷ front) b later e =
    fits_there (unwrap_or x.motion g) (option_or x.feed f) front b later (and_parts (fits_at (is_empty (front ++ b ∷ later)) (unwrap_or x.motion g) (option_or x.feed f) x) (each_fits (unwrap_or x.motion g) (option_or x.feed f) (front ++ b ∷ later)) e).1

abbrev GivenIn : List Block → Type 0
GivenIn bs = (d : List Block) × (e : Block) × (f : List Block) × (bs ≡ d ++ e ∷ f) × (is_some e.feed ≡ true)

feed_here : (b : Block) (bs : List Block) (o : Option ℕ) → b.feed ≡ o → (is_some (feed_after None bs) ≡ true → GivenIn bs) → is_some (feed_after (option_or o None) bs) ≡ true → GivenIn (b ∷ bs)
feed_here b bs None e more s = let m : GivenIn bs = more s in (b ∷ m.0, m.1, m.2, ap (λ z. b ∷ z) m.3, m.4)
feed_here b bs (Some x) e more s = ([], b, bs, refl, ap is_some e)

feed_in : (bs : List Block) → is_some (feed_after None bs) ≡ true → GivenIn bs
feed_in [] s = cc
feed_in (b ∷ bs) s = feed_here b bs b.feed refl (feed_in bs) s

feed_there : (last : Bool) (g : Motion) (f : Option ℕ) (b : Block) → fits_at last g f b ≡ true → is_some b.target ≡ true → g ≡ Feed → is_some f ≡ true
feed_there last g f b e x m = grind arith

pub each_fed : (bs : List Block) → closable bs ≡ true → Fed bs
each_fed bs e a b c split x g =
    let all : each_fits Rapid None bs ≡ true = (and_parts (not (is_empty bs)) (each_fits Rapid None bs) e).1 in
    let here : fits_at (is_empty c) (motion_after Rapid (a ++ b ∷ [])) (feed_after None (a ++ b ∷ [])) b ≡ true = fits_there Rapid None a b c (subst (λ z. each_fits Rapid None z ≡ true) split all) in
    feed_in (a ++ b ∷ []) (feed_there (is_empty c) (motion_after Rapid (a ++ b ∷ [])) (feed_after None (a ++ b ∷ [])) b here x g)

none_before : (a : List Block) (b : Block) (c : List Block) → [] ≡ a ++ b ∷ c → ends b ≡ false
none_before [] b c e = cc
none_before (x ∷ a) b c e = cc

one-before : (y : Block) (front : List Block) → ends y ≡ false → ((a : List Block) (b : Block) (c : List Block) → front ≡ a ++ b ∷ c → ends b ≡ false) → (a : List Block) (b : Block) (c : List Block) → y ∷ front ≡ a ++ b ∷ c → ends b ≡ false
one-before y front n more [] b c e = grind arith
one-before y front n more (x ∷ a) b c e = grind arith

ends_later : (b : Block) (bs : List Block) → ends b ≡ false → EndsOnce bs → EndsOnce (b ∷ bs)
ends_later b bs on more = (b ∷ more.0, more.1, ap (λ z. b ∷ z) more.2, more.3, one-before b more.0 on more.4)

ends_once : (g : Motion) (f : Option ℕ) (b : Block) (bs : List Block) → each_fits g f (b ∷ bs) ≡ true → EndsOnce (b ∷ bs)
ends_once g f b [] e = let last : ends b ≡ true = grind arith in ([], b, refl, last, none_before)
ends_once g f b (c ∷ bs) e = ends_later b (c ∷ bs) (grind arith) (ends_once (unwrap_or b.motion g) (option_or b.feed f) c bs (grind arith))

pub each_ends : (bs : List Block) → closable bs ≡ true → EndsOnce bs
each_ends [] e = cc
each_ends (b ∷ bs) e = ends_once Rapid None b bs e

-- the other way round: blocks that end once and are fed are closable
abbrev FedFrom : Motion → Option ℕ → List Block → Type 0
FedFrom g f bs = (a : List Block) (b : Block) (c : List Block) → bs ≡ a ++ b ∷ c → is_some b.target ≡ true → motion_after g (a ++ b ∷ []) ≡ Feed → is_some (feed_after f (a ++ b ∷ [])) ≡ true

or_some : (o f : Option ℕ) → is_some f ≡ true → is_some (option_or o f) ≡ true
or_some None f h = h
or_some (Some x) f h = refl

some_or : (o f : Option ℕ) → is_some o ≡ true → is_some (option_or o f) ≡ true
some_or None f h = cc
some_or (Some x) f h = refl

feed_holds : (f : Option ℕ) (bs : List Block) → is_some f ≡ true → is_some (feed_after f bs) ≡ true
feed_holds f [] h = h
feed_holds f (b ∷ bs) h = feed_holds (option_or b.feed f) bs (or_some b.feed f h)

given_holds : (f : Option ℕ) (d : List Block) (e : Block) (bs : List Block) → is_some e.feed ≡ true → is_some (feed_after f (d ++ e ∷ bs)) ≡ true
given_holds f [] e bs h = feed_holds (option_or e.feed f) bs (some_or e.feed f h)
given_holds f (x ∷ d) e bs h = given_holds (option_or x.feed f) d e bs h

fed_from : (bs : List Block) → Fed bs → FedFrom Rapid None bs
fed_from bs h a b c split x g =
    let o = h a b c split x g in
    subst (λ z. is_some (feed_after None z) ≡ true) (sym o.3) (given_holds None o.0 o.1 o.2 o.4)

fed_there : (g : Motion) (x f : Bool) → (x ≡ true → g ≡ Feed → f ≡ true) → fed g x f ≡ true
fed_there Rapid x f h = refl
fed_there Feed false f h = refl
fed_there Feed true f h = h refl refl

fits_last : (g : Motion) (f : Option ℕ) (b : Block) → ends b ≡ true → (is_some b.target ≡ true → g ≡ Feed → is_some f ≡ true) → fits_at true g f b ≡ true
fits_last g f b e h = let there : fed g (is_some b.target) (is_some f) ≡ true = fed_there g (is_some b.target) (is_some f) h in grind arith

fits_before : (g : Motion) (f : Option ℕ) (b : Block) → ends b ≡ false → (is_some b.target ≡ true → g ≡ Feed → is_some f ≡ true) → fits_at false g f b ≡ true
fits_before g f b e h = let there : fed g (is_some b.target) (is_some f) ≡ true = fed_there g (is_some b.target) (is_some f) h in grind arith

more_there : (bs : List Block) (b : Block) → is_empty (bs ++ b ∷ []) ≡ false
more_there [] b = refl
more_there (x ∷ bs) b = refl

all_fit : (g : Motion) (f : Option ℕ) (front : List Block) (last : Block) → ends last ≡ true → ((a : List Block) (b : Block) (c : List Block) → front ≡ a ++ b ∷ c → ends b ≡ false)
    → FedFrom g f (front ++ last ∷ []) → each_fits g f (front ++ last ∷ []) ≡ true
all_fit g f [] last e before h =
    let here : fits_at true (unwrap_or last.motion g) (option_or last.feed f) last ≡ true = fits_last (unwrap_or last.motion g) (option_or last.feed f) last e (h [] last [] refl) in
    grind arith
all_fit g f (y ∷ front) last e before h =
    let more : is_empty (front ++ last ∷ []) ≡ false = more_there front last in
    let here : fits_at false (unwrap_or y.motion g) (option_or y.feed f) y ≡ true = fits_before (unwrap_or y.motion g) (option_or y.feed f) y (before [] y front refl) (h [] y (front ++ last ∷ []) refl) in
    let later : each_fits (unwrap_or y.motion g) (option_or y.feed f) (front ++ last ∷ []) ≡ true =
    all_fit (unwrap_or y.motion g) (option_or y.feed f) front last e (λ a b c s. before (y ∷ a) b c (ap (λ z. y ∷ z) s)) (λ a b c s. h (y ∷ a) b c (ap (λ z. y ∷ z) s)) in
    grind arith

may_close : (bs : List Block) → EndsOnce bs → Fed bs → closable bs ≡ true
may_close bs on h =
    let all : each_fits Rapid None (on.0 ++ on.1 ∷ []) ≡ true = all_fit Rapid None on.0 on.1 on.3 on.4 (subst (FedFrom Rapid None) on.2 (fed_from bs h)) in
    let there : is_empty (on.0 ++ on.1 ∷ []) ≡ false = more_there on.0 on.1 in
    subst (λ z. closable z ≡ true) (sym on.2) (grind arith)

closes_open : (n : ℕ) (p : Program) (s : Programs) → s.entry ≡ Some p → eqb p.number n ≡ true → closable p.blocks ≡ true → (close_reply n s ≡ Ok tt) × (closed n s ≡ record { stored = s.stored ++ p ∷ []; entry = None })
closes_open n p s e q k = (cc, cc)

not_closable : (n k : ℕ) (p : Program) (b : Bool) → closable p.blocks ≡ b → end_reply p n ≡ Err (NotClosable k) → closable p.blocks ≡ false
not_closable n k p true b e = cc
not_closable n k p false b e = b

refused_open : (n k : ℕ) (p : Program) (b : Bool) → eqb p.number n ≡ b → close_reply_of (Some p) n ≡ Err (NotClosable k) → closable p.blocks ≡ false
refused_open n k p false b e = cc
refused_open n k p true b e = not_closable n k p (closable p.blocks) refl (cc)

-- 35 names the number that is closed, and that number is the open entry's
abbrev answer : Bool → Bool → ℕ → Result (Unit {0}) StoreFault
answer b c n = cond b (cond c (Ok tt) (Err (NotClosable n))) (Err (NotOpen n))

its_number : (b c : Bool) (n k : ℕ) → answer b c n ≡ Err (NotClosable k)
    → (k ≡ n) × (b ≡ true)
its_number false c n k e = cc
its_number true true n k e = cc
its_number true false n k e = (cc, refl)

refused_as : (n k : ℕ) (o : Option Program) → close_reply_of o n ≡ Err (NotClosable k)
    → (k ≡ n) × (p : Program) × (o ≡ Some p) × (p.number ≡ n) × (closable p.blocks ≡ false)
refused_as n k None e = cc
refused_as n k (Some p) e =
    let i = its_number (eqb p.number n) (closable p.blocks) n k e in
    (i.0, p, refl, eqb-true p.number n i.1, refused_open n k p (eqb p.number n) refl e)

pub closes : Closes
closes = record {
  stored = λ n p s e q on h. closes_open n p s e (eq-eqb p.number n q) (may_close p.blocks on h);
  refused = λ n k s e.
      let o = refused_as n k s.entry e in
      (o.0, o.1, o.2, o.3, λ on h. absurd (false≢true (sym o.4 ∙ may_close o.1.blocks on h)));
}
