-- One more unit.
use Rattle.std.proofs.Common.{◌≡◌, ◌⊎◌, inl, inr, ℕ, ◌+◌, Bool, true, false, cond, not, ◌==◌, ◌&&◌, Option, Some, None, Result, Ok, List, [], ◌∷◌, ◌++◌, length, take, refl, sym, ap, ap₂, subst, subst₂, ◌∙◌, arith, decimal, length-append, append_assoc, append-nil}
use Rattle.std.proofs.lemmas.List.{take-append-le}
use Rattle.std.proofs.Math.Seq.{take-length}
use Rattle.std.proofs.lemmas.Bool.{eqb-true}
use Rattle.psu_disk.specs.Disk.{DiskState}
use Rattle.psu_map.specs.Map.{Item}
use Rattle.psu_items.specs.Image.{EachIsEither}
use Rattle.psu_nv.specs.Commands.{applied, Command as Change}
use Rattle.psu_nv.specs.Contents.{items_of, Contents}
use Rattle.psu_exec.specs.Device.{Reply, Done, Answer, Error, Parked, Held, Later, count_held, map_held, place_of, made, change_if, State, Flush, target, wait_of, change_of, answer_meant, MayAnswer, Runs, Expands, Means, counted, completion_in, meant, here, flush_after, after_unit}
use Rattle.psu_tree.specs.declared.command.Command.{Command}
use Rattle.psu_tree.specs.declared.command.Command.TheVariants as command
use Rattle.psu_tree.specs.declared.queries.Query.TheVariants as query
use Rattle.psu_tree.specs.declared.command.Request.{Request}
use Rattle.psu_instrument.specs.declared.act.Completion.{Completion}
use Rattle.psu_exec.specs.declared.waits.Wait.TheVariants.{Until}
use Rattle.psu_lex.specs.declared.scpi_error.ScpiError.{ScpiError}
use Rattle.psu_lex.specs.declared.scpi_error.ScpiError.TheVariants.{StorageFault}
use Rattle.psu_exec.specs.Consistent.{AreSound, MayBeKept}
use Rattle.psu_exec.proofs.Changes.{applied-append, sound_after, sound_more}
use Rattle.psu_instrument.specs.Meaning.{Meaning}
use Rattle.psu_exec.specs.Calls.{Entry}
use Rattle.psu_power_loss.specs.World.{PastUnit, Waits, changes, with_change, before, is_answered, fate_of, unit_of, recorded}
use Rattle.psu_exec.specs.Opc.{asks_opc}
use Rattle.psu_power_loss.proofs.Histories.{changes-append, before_all, before-more, place_within, place_in_more}
use Rattle.psu_exec.proofs.Answering.{answer_is_no_call}
use Rattle.psu_power_loss.proofs.Invariant.{InLife}
use Rattle.psu_power_loss.proofs.Parking.{wait_in_set, wait_in_same}

-- equal maps under other names
same_maps : (d : DiskState) (limit : ℕ) (a b x y : List Item) → b ≡ a → y ≡ x → EachIsEither d limit a x → EachIsEither d limit b y
same_maps d limit a b x y e g h = subst₂ (λ (p q : List Item). EachIsEither d limit p q) (sym e) (sym g) h

-- the effect of a unit on the flush part
record OneMore (f new : Flush) (u : PastUnit) : Type 0 where
  pub limit : new.limit ≡ f.limit
  pub first_map : new.before ≡ f.before
  pub contents : new.contents ≡ applied f.contents (changes (u ∷ []))
  pub held : new.held ≡ f.held
  pub store : new.store ≡ f.store
  pub out : new.out ≡ f.out
  pub count : new.unflushed ≡ f.unflushed + length (changes (u ∷ []))
  pub answered : is_answered u ≡ true → f.unflushed ≡ 0
  -- a wait is an old one, or until all changes before the unit
  pub waits : (session : ℕ) (q : Completion) (n : ℕ) → wait_of new session ≡ Some (Until q n) → (wait_of f session ≡ Some (Until q n)) ⊎ (n ≡ f.unflushed)
  pub own : u.fate ≡ Waits → (q : Completion) (n : ℕ) → wait_of new u.session ≡ Some (Until q n) → n ≡ f.unflushed

-- at most one more change
sound_one : (limit : ℕ) (start : Contents) (xs : List Change) (c : Option Change) → AreSound limit start xs → MayBeKept limit (applied (applied start xs) (with_change c [])) → AreSound limit start (xs ++ with_change c [])
sound_one limit start xs None s last = rw (append-nil xs) s
sound_one limit start xs (Some c) s last = sound_more limit start xs (c ∷ []) s (sound_after limit start xs s, last)

one_more : (limit : ℕ) (start : Contents) (us : List PastUnit) (f new : Flush) (d : DiskState) (u : PastUnit) → InLife limit start us f d → MayBeKept f.limit new.contents → OneMore f new u → InLife limit start (us ++ u ∷ []) new d
one_more limit start us f new d u l sound m =
    let all : length (changes us) ≡ length l.gone + length l.rest = ap length l.made ∙ length-append l.gone l.rest in
    let longer : length (l.rest ++ changes (u ∷ [])) ≡ length l.rest + length (changes (u ∷ [])) = length-append l.rest (changes (u ∷ [])) in
    let count = l.count in
    let held = l.held in
    let same_target : target new ≡ target f = ap₂ map_held m.first_map m.held in
    let same_front : take (count_held new.held) (l.rest ++ changes (u ∷ [])) ≡ take (count_held f.held) l.rest = rw m.held (take-append-le (count_held f.held) l.rest (changes (u ∷ [])) l.held) in
    let grouped : l.gone ++ (l.rest ++ changes (u ∷ [])) ≡ (l.gone ++ l.rest) ++ changes (u ∷ []) = sym (append_assoc l.gone l.rest (changes (u ∷ []))) in
    let at_end : before (us ++ u ∷ []) (length us) ≡ length (changes us) = before-more us u (length us) (omega arith) ∙ ap (λ vs. length (changes vs)) (take-length us) in
    record {
      gone = l.gone;
      rest = l.rest ++ changes (u ∷ []);
      sound = rw grouped (sound_one limit start (l.gone ++ l.rest) u.change l.sound (subst₂ MayBeKept l.limit_is (m.contents ∙ ap (λ c. applied c (changes (u ∷ []))) l.contents) sound));
      made = changes-append us (u ∷ []) ∙ (ap (λ cs. cs ++ changes (u ∷ [])) l.made ∙ sym grouped);
      count = m.count ∙ (ap (λ (n : ℕ). n + length (changes (u ∷ []))) l.count ∙ sym longer);
      limit_is = m.limit ∙ l.limit_is;
      contents = m.contents ∙ (ap (λ c. applied c (changes (u ∷ []))) l.contents ∙ (sym (applied-append start (l.gone ++ l.rest) (changes (u ∷ []))) ∙ ap (applied start) (sym grouped)));
      first_map = m.first_map ∙ l.first_map;
      aim = same_target ∙ (l.aim ∙ ap (λ cs. items_of (applied start (l.gone ++ cs))) (sym same_front));
      held = let h : count_held new.held ≡ count_held f.held = ap count_held m.held in omega arith;
      whole = λ w o. rw m.held (l.whole (rw m.store at w) (rw m.out at o));
      disk = same_maps d limit f.before new.before (target f) (target new) m.first_map same_target l.disk;
      answered = λ i v at is. elim (place_in_more us u i v at) [
        | inl old ↦ let lt = place_within us i v old in rw (before-more us u i (omega arith)) (l.answered i v old is)
        | inr end ↦ let h = m.answered (subst (λ (x : PastUnit). is_answered x ≡ true) end.1 is) in let e = ap (before (us ++ u ∷ [])) end.0 in omega arith
      ];
      waits = λ i v at is q n h. elim (place_in_more us u i v at) [
        | inl old ↦ let lt = place_within us i v old in rw (before-more us u i (omega arith)) (elim (m.waits v.session q n h) [
          | inl w ↦ l.waits i v old is q n w
          | inr e ↦ let b = before_all us i in omega arith
        ])
        | inr end ↦ let e = ap (before (us ++ u ∷ [])) end.0 in let own = m.own (subst (λ (x : PastUnit). x.fate ≡ Waits) end.1 is) q n (subst (λ (x : PastUnit). wait_of new x.session ≡ Some (Until q n)) end.1 h) in omega arith
      ];
    }

-- a `*OPC?` that is answered at once has no unflushed change before it
at_once : (text : List ℕ) (whole empty : Bool) → Answer text ≡ cond (not whole) (Error StorageFault) (cond (true && not empty) Parked (Answer (decimal 1))) → empty ≡ true
at_once text true true h = refl
at_once text other another h = cc

answered_when_flushed : (s : State) (session : ℕ) (text : List ℕ) (reading : Result Command ScpiError) → asks_opc reading ≡ true → Answer text ≡ answer_meant s.flush (meant (here s session) reading) → s.flush.unflushed ≡ 0
answered_when_flushed s session text (Ok (command.Query query.OperationComplete)) opc h = eqb-true s.flush.unflushed 0 (at_once text _ (s.flush.unflushed == 0) h)
answered_when_flushed s session text _ opc h = cc

both_true : (a b : Bool) → a && b ≡ true → (a ≡ true) × (b ≡ true)
both_true true b h = (refl, h)
both_true false b h = cc

answered_at_once : (s : State) (session : ℕ) (request : Request) (reply : Reply) → MayAnswer s session request reply → is_answered (unit_of s session request reply) ≡ true → s.flush.unflushed ≡ 0
answered_at_once s session request (Answer text) (Runs run (Expands body is call)) h = absurd (answer_is_no_call text call.given call.is)
answered_at_once s session request (Answer text) (Runs run (Means none (inl e))) h = answered_when_flushed s session text request.reading (both_true _ _ h).0 e
answered_at_once s session request (Answer text) (Runs run (Means none (inr short))) h = let bad = short.0 in cc
answered_at_once s session request other may h = let bad = (both_true (asks_opc request.reading) _ h).1 in cc

counted-is : (c : Option Change) (n : ℕ) → counted c n ≡ n + length (with_change c [])
counted-is None n = omega arith
counted-is (Some c) n = omega arith

made-is : (c : Option Change) (n : Contents) → made c n ≡ applied n (with_change c [])
made-is None n = refl
made-is (Some c) n = refl

-- the waits after a unit
wait_after : (f : Flush) (session : ℕ) (m : Meaning) (reply : Reply) (other : ℕ) (q : Completion) (n : ℕ) → wait_of (flush_after f session m reply) other ≡ Some (Until q n) → (wait_of f other ≡ Some (Until q n)) ⊎ (n ≡ f.unflushed)
wait_after f session m Parked other q n h = elim (wait_in_set f.waits (place_of session) (Some (Until (completion_in m) f.unflushed)) (place_of other) (Until q n) h) [ inl old ↦ inl old | inr new ↦ inr (let e = new.1 in cc) ]
wait_after f session m another other q n h = inl h

own_wait : (f : Flush) (session : ℕ) (m : Meaning) (reply : Reply) → fate_of reply ≡ Waits → (q : Completion) (n : ℕ) → wait_of (flush_after f session m reply) session ≡ Some (Until q n) → n ≡ f.unflushed
own_wait f session m Parked h q n w = let e = wait_in_same f.waits (place_of session) (Some (Until (completion_in m) f.unflushed)) (Until q n) w in cc
own_wait f session m other h q n w = cc

executed_one : (s : State) (session : ℕ) (request : Request) (reply : Reply) → MayAnswer s session request reply → OneMore s.flush (after_unit s session request reply).flush (unit_of s session request reply)
executed_one s session request reply may = record {
  limit = refl;
  first_map = refl;
  contents = made-is (change_if reply (change_of s session request)) s.flush.contents;
  held = refl;
  store = refl;
  out = refl;
  count = counted-is (change_if reply (change_of s session request)) s.flush.unflushed;
  answered = answered_at_once s session request reply may;
  waits = wait_after s.flush session (meant (here s session) request.reading) reply;
  own = own_wait s.flush session (meant (here s session) request.reading) reply;
}

pub executed_keeps : (limit : ℕ) (start : Contents) (us : List PastUnit) (s : State) (d : DiskState) (session : ℕ) (request : Request) (reply : Reply) → MayAnswer s session request reply → MayBeKept s.flush.limit (after_unit s session request reply).flush.contents
    → InLife limit start us s.flush d → InLife limit start (recorded s (Entry.Executed session request reply) us) (after_unit s session request reply).flush d
executed_keeps limit start us s d session request Done may sound l = one_more limit start us s.flush _ d _ l sound (executed_one s session request Done may)
executed_keeps limit start us s d session request (Answer text) may sound l = one_more limit start us s.flush _ d _ l sound (executed_one s session request (Answer text) may)
executed_keeps limit start us s d session request (Reply.Expand text) may sound l = one_more limit start us s.flush _ d _ l sound (executed_one s session request (Reply.Expand text) may)
executed_keeps limit start us s d session request (Error e) may sound l = one_more limit start us s.flush _ d _ l sound (executed_one s session request (Error e) may)
executed_keeps limit start us s d session request Parked may sound l = one_more limit start us s.flush _ d _ l sound (executed_one s session request Parked may)
executed_keeps limit start us s d session request other may sound l = l
