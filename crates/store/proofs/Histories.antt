-- What every run of calls keeps: how the entry and each stored program came about.
use Rattle.std.proofs.Common.{◌≡◌, ℕ, ◌<◌, ◌≤◌, Bool, true, false, eqb, List, [], ◌∷◌, ◌++◌, length, Some, None, Ok, Err, Option, Result, sym, refl, ap, ◌∙◌, subst, append_assoc, arith}
use Rattle.std.specs.List.{AllByRecursion}
use Rattle.std.proofs.lemmas.Option.{same_Some}
use Rattle.std.proofs.lemmas.List.{append-nil, length_push}
use Rattle.std.proofs.lemmas.Bool.Decides.{nat_tests}
use Rattle.std.proofs.lemmas.Bool.{eqb-true, eq-eqb}
use Rattle.units.specs.declared.Measure.{Measure}
use Rattle.reader.specs.declared.block.Block.{Block}
use Rattle.reader.specs.declared.fault.LineFault.{LineFault}
use Rattle.store.specs.declared.fault.StoreFault.{StoreFault}
use Rattle.store.specs.Programs.{Program, Programs, empty, found, without, begun, read, joined_to}
use Rattle.store.specs.Closing.{closable}
use Rattle.store.specs.Entry.{first_no, open_questions, opened, open_one, entered, added, closed, abandoned, deleted}
use Rattle.store.specs.Laws.{Call, opening, adding, closing, abandoning, deleting, step, run, after, said, given, given_by, Stays, Entering, Stored}

abbrev pub store_of : List Program → Option Program → Programs
store_of ps o = record { stored = ps; entry = o }

-- every one of some programs
all_push : (P : Program → Type 0) (ps : List Program) (q : Program) → AllByRecursion P ps → P q → AllByRecursion P (ps ++ q ∷ [])
all_push P [] q a h = (h, tt)
all_push P (p ∷ ps) q a h = (a.0, all_push P ps q a.1 h)

all_map : (P Q : Program → Type 0) → ((p : Program) → P p → Q p) → (ps : List Program) → AllByRecursion P ps → AllByRecursion Q ps
all_map P Q f [] a = tt
all_map P Q f (p ∷ ps) a = (f p a.0, all_map P Q f ps a.1)

all_without : (P : Program → Type 0) (n : ℕ) (ps : List Program) → AllByRecursion P ps → AllByRecursion P (without n ps)
all_without P n [] a = tt
all_without P n (p ∷ ps) a = let more : AllByRecursion P (without n ps) = all_without P n ps a.1 in grind arith

pub all_found : (P : Program → Type 0) (n : ℕ) (ps : List Program) (p : Program) → AllByRecursion P ps → found n ps ≡ Some p → P p
all_found P n [] p a e = cc
all_found P n (q ∷ ps) p a e = let more : found n ps ≡ Some p → P p = all_found P n ps p a.1 in grind arith

length_without : (n : ℕ) (ps : List Program) → length (without n ps) ≤ length ps
length_without n [] = omega arith
length_without n (p ∷ ps) = let more : length (without n ps) ≤ length ps = length_without n ps in grind arith

-- runs one call longer
pub run_append : (cs ds : List Call) (s : Programs) → run (cs ++ ds) s ≡ run ds (run cs s)
run_append [] ds s = refl
run_append (c ∷ cs) ds s = run_append cs ds (step c s)

stays-more : (n : ℕ) (cs : List Call) (s : Programs) (c : Call) → Stays n cs s → open_one n (step c (run cs s)).entry ≡ true → Stays n (cs ++ c ∷ []) s
stays-more n [] s c st h = (st, h)
stays-more n (d ∷ cs) s c st h = (st.0, stays-more n cs (step d s) c st.1 h)

given-more : (cs : List Call) (s : Programs) (c : Call) → given_by (cs ++ c ∷ []) s ≡ given_by cs s ++ given c (run cs s)
given-more [] s c = append-nil (given c s)
given-more (d ∷ cs) s c = ap (λ z. given d s ++ z) (given-more cs (step d s) c) ∙ sym (append_assoc (given d s) (given_by cs (step d s)) (given c (run cs (step d s))))

entering-more : (cs : List Call) (n : ℕ) (m : Measure) (old bs : List Block) (c : Call) → Entering cs n m old → bs ≡ old ++ given c (after cs) → open_one n (step c (after cs)).entry ≡ true → Entering (cs ++ c ∷ []) n m bs
entering-more cs n m old bs c h e o =
    let s : Programs = opened n m (after h.before) in
    let there : after cs ≡ run h.lines s = ap after h.calls ∙ run_append h.before (opening n m ∷ h.lines) empty in
    record {
      before = h.before;
      lines = h.lines ++ c ∷ [];
      calls = ap (λ z. z ++ c ∷ []) h.calls ∙ append_assoc h.before (opening n m ∷ h.lines) (c ∷ []);
      opens = h.opens;
      stays = stays-more n h.lines s c h.stays (subst (λ z. open_one n (step c z).entry ≡ true) there o);
      blocks = e ∙ ap (λ z. z ++ given c (after cs)) h.blocks ∙ ap (λ z. given_by h.lines s ++ given c z) there ∙ sym (given-more h.lines s c);
    }

stored_more : (cs : List Call) (c : Call) (p : Program) → Stored cs p → Stored (cs ++ c ∷ []) p
stored_more cs c p h = record {
  front = h.front;
  later = h.later ++ c ∷ [];
  calls = ap (λ z. z ++ c ∷ []) h.calls ∙ append_assoc h.front (closing p.number ∷ h.later) (c ∷ []);
  entering = h.entering;
  closes = h.closes;
}

abbrev pub Sound : List Call → Program → Type 0
Sound cs p = Stored cs p × (closable p.blocks ≡ true)

abbrev EntrySound : List Call → List Program → Program → Type 0
EntrySound cs ps p = Entering cs p.number p.measure p.blocks × (length p.blocks ≤ 64) × (length ps < 16)

pub record Held (cs : List Call) (s : Programs) : Type 0 where
  pub most : length s.stored ≤ 16
  pub each : AllByRecursion (Sound cs) s.stored
  pub entry : (p : Program) → s.entry ≡ Some p → EntrySound cs s.stored p

each_more : (cs : List Call) (c : Call) (ps : List Program) → AllByRecursion (Sound cs) ps → AllByRecursion (Sound (cs ++ c ∷ [])) ps
each_more cs c ps a = all_map (Sound cs) (Sound (cs ++ c ∷ [])) (λ p h. (stored_more cs c p h.0, h.1)) ps a

-- a call that changes nothing
unchanged : (cs : List Call) (c : Call) → Held cs (after cs) → step c (after cs) ≡ after cs → given c (after cs) ≡ [] → Held (cs ++ c ∷ []) (step c (after cs))
unchanged cs c h e g =
    subst (Held (cs ++ c ∷ [])) (sym e) (record {
      most = h.most;
      each = each_more cs c (after cs).stored h.each;
      entry = λ p q. let old : EntrySound cs (after cs).stored p = h.entry p q in (
        entering-more cs p.number p.measure p.blocks p.blocks c old.0 (sym (append-nil p.blocks) ∙ ap (λ z. p.blocks ++ z) (sym g))
            (ap (λ z. open_one p.number z.entry) e ∙ ap (open_one p.number) q ∙ eq-eqb p.number p.number refl),
        old.1,
        old.2,
      );
    })

-- opening
has_room : (n : ℕ) (s : Programs) → first_no (open_questions n s) ≡ None → length s.stored < 16
has_room n s e = grind (arith, nat_tests)

open_step : (cs : List Call) (n : ℕ) (m : Measure) → Held cs (after cs) → (q : Option StoreFault) → first_no (open_questions n (after cs)) ≡ q → Held (cs ++ opening n m ∷ []) (opened n m (after cs))
open_step cs n m h (Some f) e = unchanged cs (opening n m) h (cc) refl
open_step cs n m h None e =
    let room : length (after cs).stored < 16 = has_room n (after cs) e in
    let new : EntrySound (cs ++ opening n m ∷ []) (after cs).stored (begun n m) =
    (record { before = cs; lines = []; calls = refl; opens = cc; stays = cc (eq-eqb n n refl); blocks = refl }, omega arith, room) in
    subst (Held (cs ++ opening n m ∷ [])) (cc) (record {
      most = h.most;
      each = each_more cs (opening n m) (after cs).stored h.each;
      entry = λ p q. subst (EntrySound (cs ++ opening n m ∷ []) (after cs).stored) (same_Some (begun n m) p q) new;
    })

-- adding
room : (p : Program) (line : List ℕ) (o : Option Block) → read p line ≡ Ok o → length p.blocks < 64
unfolding read
room p line o e = grind (arith, nat_tests)

joined_number : (r : Result (Option Block) LineFault) (p : Program) → (joined_to r p).number ≡ p.number
joined_number r p = grind arith

joined_entry : (cs : List Call) (n : ℕ) (line : List ℕ) (p : Program) (ps : List Program) → EntrySound cs ps p → (r : Result (Option Block) LineFault) → read p line ≡ r → given (adding n line) (after cs) ≡ said r
    → open_one p.number (step (adding n line) (after cs)).entry ≡ true → EntrySound (cs ++ adding n line ∷ []) ps (joined_to r p)
joined_entry cs n line p ps old (Ok None) er g o = (entering-more cs p.number p.measure p.blocks p.blocks (adding n line) old.0 (sym (append-nil p.blocks) ∙ ap (λ z. p.blocks ++ z) (sym g)) o, old.1, old.2)
joined_entry cs n line p ps old (Ok (Some b)) er g o =
    let l : length p.blocks < 64 = room p line (Some b) er in
    (entering-more cs p.number p.measure p.blocks (p.blocks ++ b ∷ []) (adding n line) old.0 (ap (λ z. p.blocks ++ z) (sym g)) o, omega (arith, length_push p.blocks b, l), old.2)
joined_entry cs n line p ps old (Err x) er g o = (entering-more cs p.number p.measure p.blocks p.blocks (adding n line) old.0 (sym (append-nil p.blocks) ∙ ap (λ z. p.blocks ++ z) (sym g)) o, old.1, old.2)

add_read : (cs : List Call) (n : ℕ) (line : List ℕ) (p : Program) → Held cs (after cs) → (after cs).entry ≡ Some p → eqb p.number n ≡ true
    → (r : Result (Option Block) LineFault) → read p line ≡ r → Held (cs ++ adding n line ∷ []) (added n line (after cs))
add_read cs n line p h e b r er =
    let old : EntrySound cs (after cs).stored p = h.entry p e in
    let becomes : added n line (after cs) ≡ entered (joined_to r p) (after cs) = cc in
    let gives : given (adding n line) (after cs) ≡ said r = cc in
    let still : open_one p.number (added n line (after cs)).entry ≡ true = ap (λ z. open_one p.number z.entry) becomes ∙ eq-eqb (joined_to r p).number p.number (joined_number r p) in
    let new : EntrySound (cs ++ adding n line ∷ []) (after cs).stored (joined_to r p) = joined_entry cs n line p (after cs).stored old r er gives still in
    subst (Held (cs ++ adding n line ∷ [])) (sym becomes) (record {
      most = h.most;
      each = each_more cs (adding n line) (after cs).stored h.each;
      entry = λ q eq. subst (EntrySound (cs ++ adding n line ∷ []) (after cs).stored) (same_Some (joined_to r p) q eq) new;
    })

add_open : (cs : List Call) (n : ℕ) (line : List ℕ) (p : Program) → Held cs (after cs) → (after cs).entry ≡ Some p → (b : Bool) → eqb p.number n ≡ b → Held (cs ++ adding n line ∷ []) (added n line (after cs))
add_open cs n line p h e false b =
    unchanged cs (adding n line) h (cc) (cc)
add_open cs n line p h e true b = add_read cs n line p h e b (read p line) refl

add_step : (cs : List Call) (n : ℕ) (line : List ℕ) → Held cs (after cs) → (o : Option Program) → (after cs).entry ≡ o → Held (cs ++ adding n line ∷ []) (added n line (after cs))
add_step cs n line h None e = unchanged cs (adding n line) h (cc) (cc)
add_step cs n line h (Some p) e = add_open cs n line p h e (eqb p.number n) refl

-- closing
close_kept : (cs : List Call) (n : ℕ) (p : Program) → Held cs (after cs) → (after cs).entry ≡ Some p → eqb p.number n ≡ true → (k : Bool) → closable p.blocks ≡ k → Held (cs ++ closing n ∷ []) (closed n (after cs))
close_kept cs n p h e b false k =
    let becomes : closed n (after cs) ≡ store_of (after cs).stored None = cc in
    subst (Held (cs ++ closing n ∷ [])) (sym becomes) (record {
      most = h.most;
      each = each_more cs (closing n) (after cs).stored h.each;
      entry = λ q eq. cc;
    })
close_kept cs n p h e b true k =
    let old : EntrySound cs (after cs).stored p = h.entry p e in
    let becomes : closed n (after cs) ≡ store_of ((after cs).stored ++ p ∷ []) None = cc in
    let new : Stored (cs ++ closing n ∷ []) p = record {
      front = cs;
      later = [];
      calls = ap (λ j. cs ++ closing j ∷ []) (sym (eqb-true p.number n b));
      entering = old.0;
      closes = cc (eq-eqb p.number p.number refl);
    } in
    subst (Held (cs ++ closing n ∷ [])) (sym becomes) (record {
      most = omega (arith, length_push (after cs).stored p, old.2);
      each = all_push (Sound (cs ++ closing n ∷ [])) (after cs).stored p (each_more cs (closing n) (after cs).stored h.each) (new, k);
      entry = λ q eq. cc;
    })

close_open : (cs : List Call) (n : ℕ) (p : Program) → Held cs (after cs) → (after cs).entry ≡ Some p → (b : Bool) → eqb p.number n ≡ b → Held (cs ++ closing n ∷ []) (closed n (after cs))
close_open cs n p h e false b = unchanged cs (closing n) h (cc) refl
close_open cs n p h e true b = close_kept cs n p h e b (closable p.blocks) refl

close_step : (cs : List Call) (n : ℕ) → Held cs (after cs) → (o : Option Program) → (after cs).entry ≡ o → Held (cs ++ closing n ∷ []) (closed n (after cs))
close_step cs n h None e = unchanged cs (closing n) h (cc) refl
close_step cs n h (Some p) e = close_open cs n p h e (eqb p.number n) refl

-- abandoning, deleting
abandon_step : (cs : List Call) (n : ℕ) → Held cs (after cs) → (b : Bool) → open_one n (after cs).entry ≡ b → Held (cs ++ abandoning n ∷ []) (abandoned n (after cs))
abandon_step cs n h false b = unchanged cs (abandoning n) h (cc) refl
abandon_step cs n h true b =
    let becomes : abandoned n (after cs) ≡ store_of (after cs).stored None = cc in
    subst (Held (cs ++ abandoning n ∷ [])) (sym becomes) (record {
      most = h.most;
      each = each_more cs (abandoning n) (after cs).stored h.each;
      entry = λ q eq. cc;
    })

delete_step : (cs : List Call) (n : ℕ) → Held cs (after cs) → Held (cs ++ deleting n ∷ []) (deleted n (after cs))
delete_step cs n h =
    let fewer : length (without n (after cs).stored) ≤ length (after cs).stored = length_without n (after cs).stored in
    record {
      most = omega (arith, fewer, h.most);
      each = all_without (Sound (cs ++ deleting n ∷ [])) n (after cs).stored (each_more cs (deleting n) (after cs).stored h.each);
      entry = λ p q. let old : EntrySound cs (after cs).stored p = h.entry p q in
          (entering-more cs p.number p.measure p.blocks p.blocks (deleting n) old.0 (sym (append-nil p.blocks)) (ap (open_one p.number) q ∙ eq-eqb p.number p.number refl), old.1, omega (arith, fewer, old.2));
    }

held-step : (cs : List Call) (c : Call) → Held cs (after cs) → Held (cs ++ c ∷ []) (step c (after cs))
held-step cs (opening n m) h = open_step cs n m h (first_no (open_questions n (after cs))) refl
held-step cs (adding n line) h = add_step cs n line h (after cs).entry refl
held-step cs (closing n) h = close_step cs n h (after cs).entry refl
held-step cs (abandoning n) h = abandon_step cs n h (open_one n (after cs).entry) refl
held-step cs (deleting n) h = delete_step cs n h

held_on : (cs ds : List Call) → Held cs (after cs) → Held (cs ++ ds) (after (cs ++ ds))
held_on cs [] h = subst (λ z. Held z (after z)) (sym (append-nil cs)) h
held_on cs (c ∷ ds) h =
    subst (λ z. Held z (after z)) (append_assoc cs (c ∷ []) ds) (held_on (cs ++ c ∷ []) ds (subst (Held (cs ++ c ∷ [])) (sym (run_append cs (c ∷ []) empty)) (held-step cs c h)))

pub held : (cs : List Call) → Held cs (after cs)
held cs = held_on [] cs (record { most = omega arith; each = tt; entry = λ p e. cc })
