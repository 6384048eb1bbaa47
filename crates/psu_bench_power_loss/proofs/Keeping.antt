-- A seat's answered `*OPC?` in the history, and what is on the disk since.
use Rattle.std.proofs.Common.{◌≡◌, inl, inr, ℕ, ◌+◌, Bool, true, false, ◌&&◌, ◌==◌, suc, zero, Option, Some, List, [], ◌∷◌, ◌++◌, length, map, refl, sym, ap, subst, ◌∙◌, arith, length-append, append_assoc, if◌then◌else◌}
use Rattle.std.proofs.lemmas.Bool.{eqb-true}
use Rattle.std.specs.Prelude.{slice_get}
use Rattle.psu_disk.specs.Disk.{DiskState}
use Rattle.psu_exec.specs.Calls.{Entry, ends_wait}
use Rattle.psu_exec.specs.Device.{Answer, State, is_open}
use Rattle.psu_power_loss.specs.World.{World, Fate, Gave, Waits, Dropped, PastUnit, Happens, Call, DiskCall, ended, ended_fate, is_answer, is_answered, is_executed, recorded, unit_of}
use Rattle.psu_exec.specs.Opc.{asks_opc}
use Rattle.psu_power_loss.proofs.Histories.{AnsweredAt, answered_greatest}
use Rattle.psu_tree.specs.declared.command.Request.{Request}
use Rattle.psu_turn.specs.History.{calls_by, numbered, StartsWith}
use Rattle.psu_turn.specs.declared.numbered.Numbered.{Numbered}
use Rattle.psu_disk.specs.declared.disk.Disk.{Ghosts}
use Rattle.psu_bench_power_loss.specs.Threads.{DisksLeavePrefix, shown}
use Rattle.psu_bench_power_loss.specs.Lives.{Happening, Called, Moved, Lives, calls_in}
use Rattle.psu_bench_power_loss.specs.Kept.{EachOpcIsKept, executed, executes}

-- ---- a call of a seat in the history

numbered_is : {E : Type 0} (x : Numbered E) (k : ℕ) (e : E) → (x.seat == k) ≡ true → x.entry ≡ e → x ≡ numbered k e
numbered_is x k e seat entry = ap (λ (n : ℕ). numbered n x.entry) (eqb-true x.seat k seat) ∙ ap (λ (z : _). numbered k z) entry

pub record At {E : Type 0} (seat : ℕ) (mine : List E) (entry : E) (history : List (Numbered E)) : Type 0 where
  pub before : List (Numbered E)
  pub later : List (Numbered E)
  pub is : history ≡ before ++ numbered seat entry ∷ later
  pub own : calls_by seat before ≡ mine

module _ {E : Type 0} (k : ℕ) where
  at_more : (x : Numbered E) (mine : List E) (entry : E) (history : List (Numbered E)) → At k mine entry history → (b : Bool) → (x.seat == k) ≡ b → At k ((if b then x.entry ∷ [] else []) ++ mine) entry (x ∷ history)
  at_more x mine entry history at true is = record { before = x ∷ at.before; later = at.later; is = ap (λ z. x ∷ z) at.is; own = rw is (ap (λ z. x.entry ∷ z) at.own) }
  at_more x mine entry history at false is = record { before = x ∷ at.before; later = at.later; is = ap (λ z. x ∷ z) at.is; own = rw is at.own }

  at_here : (x : Numbered E) (history : List (Numbered E)) (entry : E) → ((mine later : List E) → calls_by k history ≡ mine ++ entry ∷ later → At k mine entry history)
      → (mine later : List E) (b : Bool) → (x.seat == k) ≡ b → (if b then x.entry ∷ calls_by k history else calls_by k history) ≡ mine ++ entry ∷ later → At k mine entry (x ∷ history)
  at_here x history entry rest mine later false is e = at_more x mine entry history (rest mine later e) false is
  at_here x history entry rest [] later true is e = record { before = []; later = history; is = ap (λ z. z ∷ history) (numbered_is x k entry is (cc (e))); own = refl }
  at_here x history entry rest (m ∷ mine) later true is e =
      let same : x.entry ≡ m = cc (e) in
      subst (λ (z : E). At k (z ∷ mine) entry (x ∷ history)) same (at_more x mine entry history (rest mine later (cc (e))) true is)

  pub at_own : (history : List (Numbered E)) (mine : List E) (entry : E) (later : List E) → calls_by k history ≡ mine ++ entry ∷ later → At k mine entry history
  at_own [] [] entry later e = absurd (cc (e))
  at_own [] (m ∷ mine) entry later e = absurd (cc (e))
  at_own (x ∷ history) mine entry later e = at_here x history entry (λ mine later e. at_own history mine entry later e) mine later (x.seat == k) refl e

-- what was seen is a beginning of the whole
pub at_longer : {E : Type 0} (k : ℕ) (mine : List E) (entry : E) (seen whole : List (Numbered E)) → StartsWith whole seen → At k mine entry seen → At k mine entry whole
at_longer k mine entry seen whole (rest, is) at = record {
  before = at.before;
  later = at.later ++ rest;
  is = is ∙ ap (λ z. z ++ rest) at.is ∙ append_assoc at.before (numbered k entry ∷ at.later) rest;
  own = at.own;
}

-- ---- the units of a world

got_more : {X : Type 0} (xs ys : List X) (i : ℕ) (x : X) → slice_get xs i ≡ Some x → slice_get (xs ++ ys) i ≡ Some x
got_more [] ys i x e = absurd (cc (e))
got_more (z ∷ xs) ys zero x e = e
got_more (z ∷ xs) ys (suc i) x e = got_more xs ys i x e

got_last : {X : Type 0} (xs : List X) (x : X) → slice_get (xs ++ x ∷ []) (length xs) ≡ Some x
got_last [] x = refl
got_last (z ∷ xs) x = got_last xs x

got_mapped : {X : Type 0} (f : X → X) (xs : List X) (i : ℕ) (x : X) → slice_get xs i ≡ Some x → slice_get (map f xs) i ≡ Some (f x)
got_mapped f [] i x e = absurd (cc (e))
got_mapped f (z ∷ xs) zero x e = ap (λ (o : Option _). o) (cc (e))
got_mapped f (z ∷ xs) (suc i) x e = got_mapped f xs i x e

length_mapped : {X : Type 0} (f : X → X) (xs : List X) → length (map f xs) ≡ length xs
length_mapped f [] = refl
length_mapped f (x ∷ xs) = ap suc (length_mapped f xs)

-- a unit that is answered stays so
ended_answer : (b : Bool) (new old : Fate) → is_answer old ≡ true → ended_fate b new old ≡ old
ended_answer true new (Gave reply) is = refl
ended_answer false new (Gave reply) is = refl
ended_answer b new Waits is = absurd (cc (is))
ended_answer b new Dropped is = absurd (cc (is))

and_right : (a b : Bool) → a && b ≡ true → b ≡ true
and_right true b e = e
and_right false b e = absurd (cc (e))

ended_answered : (session : ℕ) (fate : Fate) (u : PastUnit) → is_answered u ≡ true → is_answered (ended session fate u) ≡ true
ended_answered session fate u is = rw (ended_answer (u.session == session) fate u.fate (and_right (asks_opc u.request.reading) (is_answer u.fate) is)) is

-- the history after a call: as many units as it executes are added, and an answered one stays
pub record Grows (units new : List PastUnit) (more : ℕ) : Type 0 where
  pub count : length new ≡ length units + more
  pub stays : (i : ℕ) → AnsweredAt units i → AnsweredAt new i

grows_none : (units : List PastUnit) → Grows units units 0
grows_none units = record { count = omega arith; stays = λ i at. at }

grows_mapped : (session : ℕ) (fate : Fate) (units : List PastUnit) → Grows units (map (ended session fate) units) 0
grows_mapped session fate units = record {
  count = length_mapped (ended session fate) units ∙ omega arith;
  stays = λ i at. record { unit = ended session fate at.unit; at = got_mapped (ended session fate) units i at.unit at.at; is = ended_answered session fate at.unit at.is };
}

grows_one : (units : List PastUnit) (u : PastUnit) → Grows units (units ++ u ∷ []) 1
grows_one units u = record { count = length-append units (u ∷ []); stays = λ i at. record { unit = at.unit; at = got_more units (u ∷ []) i at.unit at.at; is = at.is } }

grows_if_executed : (b : Bool) (units : List PastUnit) (u : PastUnit) → Grows units (if b then units ++ u ∷ [] else units) (if b then 1 else 0)
grows_if_executed true units u = grows_one units u
grows_if_executed false units u = grows_none units

grows_if_ended : (b : Bool) (session : ℕ) (fate : Fate) (units : List PastUnit) → Grows units (if b then map (ended session fate) units else units) 0
grows_if_ended true session fate units = grows_mapped session fate units
grows_if_ended false session fate units = grows_none units

grows : (s : State) (entry : Entry) (units : List PastUnit) → Grows units (recorded s entry units) (executes entry)
grows s (Entry.Executed session request reply) units = grows_if_executed (is_executed reply) units (unit_of s session request reply)
grows s (Entry.Settled session reply) units = grows_if_ended (ends_wait reply) session (Gave reply) units
grows s (Entry.Closed session granted) units = grows_if_ended (is_open s session) session Dropped units
grows s (Entry.Cleared session) units = grows_if_ended (is_open s session) session Dropped units
grows s (Entry.Took taken) units = grows_none units
grows s (Entry.GaveBack finished over) units = grows_none units
grows s (Entry.Opened session) units = grows_none units
grows s (Entry.Sent session sessions work) units = grows_none units
grows s (Entry.Delivered session) units = grows_none units
grows s (Entry.Queried session byte) units = grows_none units
grows s (Entry.Fetched session byte) units = grows_none units
grows s (Entry.Notified sessions work) units = grows_none units
grows s (Entry.Locked session kind now timeout result) units = grows_none units
grows s (Entry.Released session result) units = grows_none units
grows s (Entry.Ticked now failed) units = grows_none units
grows s (Entry.Informed info) units = grows_none units
grows s (Entry.Due deadline) units = grows_none units

grows_both : (one two three : List PastUnit) (m n : ℕ) → Grows one two m → Grows two three n → Grows one three (m + n)
grows_both one two three m n a b = record { count = (let c = a.count in let d = b.count in omega arith); stays = λ i at. b.stays i (a.stays i at) }

same_history : (w mid : World) (disk : DiskState) → Happens w (DiskCall disk) mid → mid.history ≡ w.history
same_history w mid disk (moves, inl (keeps, is)) = ap (λ (z : World). z.history) is
same_history w mid disk (moves, inr (keeps, is)) = ap (λ (z : World). z.history) is

pub lives_grow : (w now : World) (happenings : List Happening) → Lives w happenings now → Grows w.history now.history (executed (calls_in happenings))
lives_grow w now [] is = subst (λ (z : World). Grows w.history z.history 0) (sym is) (grows_none w.history)
lives_grow w now (Called call disk ∷ more) (mid, happens, lives) =
    grows_both w.history mid.history now.history (executes call.entry) (executed (calls_in more))
    (subst (λ (z : World). Grows w.history z.history (executes call.entry)) (sym happens.4) (grows w.state call.entry w.history)) (lives_grow mid now more lives)
lives_grow w now (Moved disk ∷ more) (mid, happens, lives) =
    subst (λ (z : List PastUnit). Grows z now.history (executed (calls_in more))) (same_history w mid disk happens) (lives_grow mid now more lives)

-- ---- the answered `*OPC?`

-- up to a call, the call, and on
pub record LivesAt (w now : World) (before : List (Numbered Entry)) (call : Numbered Entry) (later : List (Numbered Entry)) : Type 0 where
  pub was : World
  pub new : World
  pub disk : DiskState
  pub first : List Happening
  pub last : List Happening
  pub lives : Lives w first was
  pub of_first : calls_in first ≡ before
  pub happens : Happens was (Call call.entry disk) new
  pub continues : Lives new last now

lives_at : (w now : World) (happenings : List Happening) (before : List (Numbered Entry)) (call : Numbered Entry) (later : List (Numbered Entry)) → Lives w happenings now → calls_in happenings ≡ before ++ call ∷ later → LivesAt w now before call later
lives_at w now [] [] call later lives e = absurd (cc (e))
lives_at w now [] (b ∷ before) call later lives e = absurd (cc (e))
lives_at w now (Called c disk ∷ more) [] call later (mid, happens, lives) e =
    let same : c ≡ call = cc (e) in
    record { was = w; new = mid; disk = disk; first = []; last = more; lives = refl; of_first = refl; happens = subst (λ (z : Numbered Entry). Happens w (Call z.entry disk) mid) same happens; continues = lives }
lives_at w now (Called c disk ∷ more) (b ∷ before) call later (mid, happens, lives) e =
    let rest = lives_at mid now more before call later lives (cc (e)) in
    let same : c ≡ b = cc (e) in
    record {
      was = rest.was;
      new = rest.new;
      disk = rest.disk;
      first = Called c disk ∷ rest.first;
      last = rest.last;
      lives = (mid, happens, rest.lives);
      of_first = ap (λ (z : List (Numbered Entry)). c ∷ z) rest.of_first ∙ ap (λ (z : Numbered Entry). z ∷ before) same;
      happens = rest.happens;
      continues = rest.continues;
    }
lives_at w now (Moved disk ∷ more) before call later (mid, happens, lives) e =
    let rest = lives_at mid now more before call later lives e in
    record {
      was = rest.was;
      new = rest.new;
      disk = rest.disk;
      first = Moved disk ∷ rest.first;
      last = rest.last;
      lives = (mid, happens, rest.lives);
      of_first = rest.of_first;
      happens = rest.happens;
      continues = rest.continues;
    }

-- an answered `*OPC?` is at its place in the history then
answered_now : (was new : World) (disk : DiskState) (session : ℕ) (request : Request) (text : List ℕ) → asks_opc request.reading ≡ true → Happens was (Call (Entry.Executed session request (Answer text)) disk) new → AnsweredAt new.history (length was.history)
answered_now was new disk session request text asks happens =
    let u : PastUnit = unit_of was.state session request (Answer text) in
    subst (λ (z : World). AnsweredAt z.history (length was.history)) (sym happens.4)
    (record { unit = u; at = got_last was.history u; is = rw asks refl })

pub each_kept : {D A : Type 0} {G : Ghosts D} → DisksLeavePrefix D A G → EachOpcIsKept D A G
each_kept {D} {A} {G} leave = λ w first last steps state image seat mine later session request text start disk disks leads crash starts own asks.
    let entry : Entry = Entry.Executed session request (Answer text) in
    let whole : List (Numbered Entry) = calls_in (shown w.disk steps) in
    let p = leave w first last steps state image start disk disks leads crash in
    let at = at_longer seat.number mine entry seat.seen whole starts (at_own seat.number seat.seen mine entry later own) in
    let l = lives_at w p.0 (shown w.disk steps) at.before (numbered seat.number entry) at.later p.2 at.is in
    let count : length l.was.history ≡ length w.history + executed (calls_in l.first) = (lives_grow w l.was l.first l.lives).count in
    let none : length w.history ≡ 0 = ap length start.history in
    let same : executed (calls_in l.first) ≡ executed at.before = ap executed l.of_first in
    let stays = (lives_grow l.new p.0 l.last l.continues).stays (length l.was.history) (answered_now l.was l.new l.disk session request text asks l.happens) in
    let greatest = answered_greatest p.0.history (length l.was.history) stays.unit stays.at stays.is in
    let from = p.3.from in (
      p.0,
      p.2,
      record {
        call = record { before = at.before; later = at.later; is = at.is; own = at.own };
        k = p.1;
        prefix = p.3;
        all = omega arith;
        represents = p.5;
      },
    )
