-- After an accepted stop in a run of calls, the axis stands in time.
use Rattle.std.proofs.Common.{◌≡◌, ℕ, ◌+◌, ◌≤◌, max, Bool, true, false, cond, eqb, List, [], ◌∷◌, ◌++◌, Some, None, Ok, Err, Option, Result, refl, sym, ap, ◌∙◌, subst, inl, inr, arith}
use Rattle.std.proofs.lemmas.Bool.{eqb-true}
use Rattle.drives.specs.Meaning.{Meaning, Sound}
use Rattle.store.specs.Programs.{Programs}
use Rattle.states.specs.declared.fault.AxisFault.{AxisFault}
use Rattle.states.specs.declared.order.Order.{Order}
use Rattle.states.specs.State.{Phase, AxisState}
use Rattle.laws.specs.Acts as one
use Rattle.laws.specs.Laws as laws
use Rattle.laws.specs.Laws.{step_of, stands_in, rest_of, RestsIn}
use Rattle.laws.proofs.Stops.{stop}
use Rattle.module.specs.declared.call.Act.{Act}
use Rattle.module.specs.declared.call.Act.TheVariants as act
use Rattle.module.specs.declared.call.Call.{Call}
use Rattle.module.specs.declared.call.Call.TheVariants.{OnAxis, Open, Add, Close, Abandon, DeleteProgram}
use Rattle.module.specs.State.{Machine}
use Rattle.module.specs.Machine.{done, done_or, at_axis, step, reply, after}
use Rattle.module.specs.History.{Which, first, second, third, number, axis_at, act_of, act_on, is_tick, ticks_of}
use Rattle.module.specs.Promise.{EndsInTick, StandsWithin, StopLaw}
use Rattle.module.proofs.Axes.{left_by, step_at, IsReply, reply_at, event, one_more, events, after_at}

-- a call is a tick of the axis if its event is one
ticks_one : (o : Option one.Act) (p : Programs) (es : List one.Event) → is_tick o + one.ticks es ≡ one.ticks (one_more o p es)
ticks_one None p es = omega arith
ticks_one (Some act) p es = refl

-- calls have as many ticks of an axis as its events
ticks_same : (w : Which) (cs : List Call) (s : Machine) → ticks_of w cs ≡ one.ticks (events w s cs)
ticks_same w [] s = refl
ticks_same w (c ∷ cs) s =
    ap (λ (n : ℕ). is_tick (act_on w c) + n) (ticks_same w cs (step c s))
    ∙ ticks_one (act_on w c) s.programs (events w (step c s) cs)

-- a call that is a tick of the axis by its act
tick_of : (asked : Act) → act_of asked ≡ Some one.ticking → asked ≡ act.Tick
tick_of (act.Enter d) e = cc
tick_of act.Delete e = cc
tick_of (act.Order o) e = cc
tick_of (act.Level l) e = cc
tick_of act.Tick e = refl
tick_of act.Observe e = cc

named_tick : (b : Bool) (axis n : ℕ) (asked : Act) → eqb axis n ≡ b → cond b (act_of asked) None ≡ Some one.ticking
    → OnAxis axis asked ≡ OnAxis n act.Tick
named_tick true axis n asked i e =
    ap (λ (k : ℕ). OnAxis k asked) (eqb-true axis n i) ∙ ap (λ (x : Act). OnAxis n x) (tick_of asked e)
named_tick false axis n asked i e = cc

tick_on : (w : Which) (c : Call) → act_on w c ≡ Some one.ticking → c ≡ OnAxis (number w) act.Tick
tick_on w (OnAxis axis asked) e = named_tick (eqb axis (number w)) axis (number w) asked refl e
tick_on w (Open n m) e = cc
tick_on w (Add n line) e = cc
tick_on w (Close n) e = cc
tick_on w (Abandon n) e = cc
tick_on w (DeleteProgram n) e = cc

-- calls that begin with some whose events are these, with no call after the last of them
abbrev Front : Which → Machine → List Call → List one.Event → Type 0
Front w s cs soon =
    (ds : List Call) × (rest : List Call) × (cs ≡ ds ++ rest) × (events w s ds ≡ soon) × (soon ≡ [] → ds ≡ [])
    × (laws.EndsInTick soon → EndsInTick w ds)

-- no list is empty that has a last one
has_last : {A B : Type 0} (front : List B) (last : B) → front ++ last ∷ [] ≡ [] → A
has_last [] last e = cc
has_last (b ∷ front) last e = cc

-- a call before some that end in a tick
call_before : (w : Which) (c : Call) (ds : List Call) (s : Machine) (soon front : List one.Event) (last : one.Event) → events w s ds ≡ soon
    → soon ≡ front ++ last ∷ [] → EndsInTick w ds → EndsInTick w (c ∷ ds)
call_before w c ds s soon front last h q (inl z) = has_last front last (sym q ∙ sym h ∙ ap (events w s) z)
call_before w c ds s soon front last h q (inr t) = inr (c ∷ t.0, ap (λ (l : List Call). c ∷ l) t.1)

-- the call of the first event
first_call : (w : Which) (c : Call) (ds : List Call) (s : Machine) (e : one.Event) (soon front : List one.Event) (p : Programs)
    → act_on w c ≡ Some e.act → events w s ds ≡ soon → (soon ≡ [] → ds ≡ []) → (laws.EndsInTick soon → EndsInTick w ds)
    → e ∷ soon ≡ front ++ event one.ticking p ∷ [] → EndsInTick w (c ∷ ds)
first_call w c ds s e soon [] p i h z t q =
    let is : e ≡ event one.ticking p = cc in
    let none : soon ≡ [] = cc in
    let tick = tick_on w c (i ∙ ap (λ (x : one.Event). Some x.act) is) in
    inr ([], ap (λ (l : List Call). c ∷ l) (z none) ∙ ap (λ (x : Call). x ∷ []) tick)
first_call w c ds s e soon (f ∷ front) p i h z t q =
    let more : soon ≡ front ++ event one.ticking p ∷ [] = cc in
    call_before w c ds s soon front (event one.ticking p) h more (t (inr (front, p, more)))

-- of a call that has no event, and of one that has
last_before : (w : Which) (c : Call) (ds : List Call) (s : Machine) (e : one.Event) (soon : List one.Event) → events w s ds ≡ e ∷ soon
    → (laws.EndsInTick (e ∷ soon) → EndsInTick w ds) → laws.EndsInTick (e ∷ soon) → EndsInTick w (c ∷ ds)
last_before w c ds s e soon h t (inl z) = cc
last_before w c ds s e soon h t (inr x) = call_before w c ds s (e ∷ soon) x.0 (event one.ticking x.1) h x.2 (t (inr x))

last_first : (w : Which) (c : Call) (ds : List Call) (s : Machine) (e : one.Event) (soon : List one.Event) → act_on w c ≡ Some e.act
    → events w s ds ≡ soon → (soon ≡ [] → ds ≡ []) → (laws.EndsInTick soon → EndsInTick w ds) → laws.EndsInTick (e ∷ soon)
    → EndsInTick w (c ∷ ds)
last_first w c ds s e soon i h z t (inl x) = cc
last_first w c ds s e soon i h z t (inr x) = first_call w c ds s e soon x.0 x.1 i h z t x.2

-- one call in front: its event is the first one, or it has none
front_one : (o : Option one.Act) (w : Which) (c : Call) (cs : List Call) (s : Machine) (e : one.Event) (soon rest : List one.Event)
    → act_on w c ≡ o → one_more o s.programs (events w (step c s) cs) ≡ e ∷ (soon ++ rest)
    → ((es : List one.Event) → events w (step c s) cs ≡ es ++ rest → Front w (step c s) cs es)
    → Front w s (c ∷ cs) (e ∷ soon)
front_one None w c cs s e soon rest q h ih =
    let f = ih (e ∷ soon) h in (
      c ∷ f.0,
      f.1,
      ap (λ (ds : List Call). c ∷ ds) f.2,
      ap (λ (o : Option one.Act). one_more o s.programs (events w (step c s) f.0)) q ∙ f.3,
      λ z. cc,
      last_before w c f.0 (step c s) e soon f.3 f.5,
    )
front_one (Some act) w c cs s e soon rest q h ih =
    let f = ih soon (cc) in (
      c ∷ f.0,
      f.1,
      ap (λ (ds : List Call). c ∷ ds) f.2,
      ap (λ (o : Option one.Act). one_more o s.programs (events w (step c s) f.0)) q ∙ cc (f.3),
      λ z. cc,
      last_first w c f.0 (step c s) e soon (q ∙ cc) f.3 f.4 f.5,
    )

-- a front of the events of calls is the events of a front of the calls
front : (w : Which) (cs : List Call) (s : Machine) (soon rest : List one.Event) → events w s cs ≡ soon ++ rest → Front w s cs soon
front w cs s [] rest h = ([], cs, refl, refl, λ z. refl, λ t. inl refl)
front w [] s (e ∷ soon) rest h = cc
front w (c ∷ cs) s (e ∷ soon) rest h =
    front_one (act_on w c) w c cs s e soon rest refl h (λ (es : List one.Event). front w cs (step c s) es rest)

-- so the axis stands within as many ticks of the calls
front_stands : (w : Which) (n : ℕ) (p : Phase) (s : Machine) (cs : List Call) (soon rest : List one.Event)
    → events w s cs ≡ soon ++ rest → one.ticks soon ≤ n → stands_in (one.after (axis_at w s) soon) ≡ true
    → RestsIn p (one.after (axis_at w s) soon) → laws.EndsInTick soon → StandsWithin w n p s cs
front_stands w n p s cs soon rest h t z r l k =
    let f = front w cs s soon rest h in
    let e = after_at w f.0 s ∙ ap (λ (es : List one.Event). one.after (axis_at w s) es) f.3 in (
      f.0,
      f.1,
      f.2,
      subst (λ (i : ℕ). i ≤ n) (sym (ticks_same w f.0 s ∙ ap one.ticks f.3)) t,
      ap stands_in e ∙ z,
      subst (RestsIn p) (sym e) r,
      f.5 l,
    )

-- an order to an axis is its act
order_on : (w : Which) (o : Order) → act_on w (OnAxis (number w) (act.Order o)) ≡ Some (one.ordering o)
order_on first o = refl
order_on second o = refl
order_on third o = refl

-- an act that is answered done is accepted
done_accepted : (n : ℕ) (r : Result (Unit {0}) AxisFault) → at_axis n (done_or r) ≡ done → r ≡ Ok tt
done_accepted n (Ok u) e = refl
done_accepted n (Err f) e = cc

-- the law of a stop, from a machine in which the axis is new
pub stop_law : (w : Which) (m : Meaning) → Sound m → (s : Machine) → axis_at w s ≡ one.new_axis m → (calls : List Call)
    → StopLaw w s calls
stop_law w m sound s q calls before later o split c e h =
    let call = OnAxis (number w) (act.Order o) in
    let t = after s before in
    let a = axis_at w t in
    let p = t.programs in
    let n = max (step_of a) 1 in
    let is = order_on w o in
    let replied = subst (λ (x : Option one.Act). IsReply (number w) x (reply call t) p a) is (reply_at w call t) in
    let yes = done_accepted (number w) (one.act_reply (one.ordering o) p a) (sym replied ∙ e) in
    let stopped = step_at w call t ∙ ap (λ (x : Option one.Act). left_by x p a) is in
    let from = after_at w before s ∙ ap (λ (x : AxisState). one.after x (events w s before)) q in
    let enough = subst (λ (k : ℕ). n ≤ k) (ticks_same w later (step call t)) h in
    let f = stop m sound (events w s before) (events w (step call t) later) o p a from c yes enough in
    let rest = rest_of a.status.work.phase in
    let z = ap (λ (x : AxisState). stands_in (one.after x f.0)) stopped ∙ f.4 in
    let r = subst (λ (x : AxisState). RestsIn rest (one.after x f.0)) (sym stopped) f.5 in
    front_stands w n rest (step call t) later f.0 f.1 f.2 f.3 z r f.6 h
