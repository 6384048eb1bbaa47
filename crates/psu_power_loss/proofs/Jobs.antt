-- The invariant when a job is taken, and after its end.
use Rattle.std.proofs.Common.{◌≡◌, inl, inr, ℕ, ◌+◌, ◌-◌, Bool, true, false, cond, Some, List, ◌++◌, length, take, drop, map, refl, sym, ap, subst, subst₂, ◌∙◌, arith, length-append, append-nil, append_assoc, take-append-drop, length-drop}
use Rattle.std.proofs.lemmas.List.{length-take-le}
use Rattle.std.proofs.Math.Seq.{take-length}
use Rattle.psu_disk.specs.Disk.{DiskState}
use Rattle.psu_map.specs.Map.{Item}
use Rattle.psu_items.specs.Image.{Represents, EachRepresents, EachIsEither}
use Rattle.psu_items.specs.declared.commit.UnstartedCause.TheVariants as unstarted
use Rattle.psu_nv.specs.Commands.{applied}
use Rattle.psu_nv.specs.Contents.{items_of, Contents}
use Rattle.psu_exec.specs.Device.{count_held, map_held, place_of, Flush, target, is_whole}
use Rattle.psu_exec.specs.Calls.{JobEnd, Stored, Unstarted, Failed, Reopened, job_out, IsExpected, stored, kept, broken, worn}
use Rattle.psu_exec.proofs.Giving.{FlushGives}
use Rattle.psu_power_loss.specs.World.{PastUnit}
use Rattle.psu_exec.specs.AcceptedEnd.{IsTrueOf}
use Rattle.psu_power_loss.proofs.Invariant.{InLife}
use Rattle.psu_power_loss.proofs.Parking.{wait_before_less, wait_before_cut}

-- a job is out
pub job_keeps : (limit : ℕ) (start : Contents) (us : List PastUnit) (f : Flush) (d : DiskState) → f.out ≡ false → InLife limit start us f d → InLife limit start us (job_out f) d
job_keeps limit start us f d out l = at (is_whole f.store) refl where
  at : (b : Bool) → is_whole f.store ≡ b → InLife limit start us (cond b (record f { out = true; held = Some (record { count = f.unflushed; map = items_of f.contents }) }) (record f { out = true })) d
  at true e =
      let all : take f.unflushed l.rest ≡ l.rest = rw l.count (take-length l.rest) in
      record {
        gone = l.gone;
        rest = l.rest;
        made = l.made;
        sound = l.sound;
        count = l.count;
        limit_is = l.limit_is;
        contents = l.contents;
        first_map = l.first_map;
        aim = ap items_of (l.contents ∙ ap (λ cs. applied start (l.gone ++ cs)) (sym all));
        held = let count = l.count in omega arith;
        whole = λ w o. cc;
        disk = λ image left.
            let none : map_held f.before f.held ≡ f.before = ap (map_held f.before) (l.whole e out) in
            elim (l.disk image left) [ inl s ↦ inl s | inr s ↦ inl (subst (λ (m : List Item). Represents image limit m) none s) ];
        answered = l.answered;
        waits = l.waits;
      }
  at false e = record {
    gone = l.gone;
    rest = l.rest;
    made = l.made;
    sound = l.sound;
    count = l.count;
    limit_is = l.limit_is;
    contents = l.contents;
    first_map = l.first_map;
    aim = l.aim;
    held = l.held;
    whole = λ w o. cc;
    disk = l.disk;
    answered = l.answered;
    waits = l.waits;
  }

-- the target's changes are flushed
pub stored_keeps : (limit : ℕ) (start : Contents) (us : List PastUnit) (f : Flush) (d e : DiskState) → EachRepresents e limit (target f) → InLife limit start us f d → InLife limit start us (stored f) e
stored_keeps limit start us f d e each l =
    let k = count_held f.held in
    let size : length (take k l.rest) ≡ k = length-take-le k l.rest l.held in
    let more : length (l.gone ++ take k l.rest) ≡ length l.gone + k = length-append l.gone (take k l.rest) ∙ ap (λ (n : ℕ). length l.gone + n) size in
    let cut : l.gone ++ l.rest ≡ (l.gone ++ take k l.rest) ++ drop k l.rest = ap (λ cs. l.gone ++ cs) (sym (take-append-drop k l.rest)) ∙ sym (append_assoc l.gone (take k l.rest) (drop k l.rest)) in
    record {
      gone = l.gone ++ take k l.rest;
      rest = drop k l.rest;
      made = l.made ∙ cut;
      sound = rw (sym cut) l.sound;
      count = ap (λ (n : ℕ). n - k) l.count ∙ sym (length-drop k l.rest);
      limit_is = l.limit_is;
      contents = l.contents ∙ ap (applied start) cut;
      first_map = l.aim;
      aim = l.aim ∙ ap (λ cs. items_of (applied start cs)) (sym (append-nil (l.gone ++ take k l.rest)));
      held = omega arith;
      whole = λ _ _. refl;
      disk = λ image left. inl (each image left);
      answered = λ i u at is. let h = l.answered i u at is in omega arith;
      waits = λ i u at is q n h.
          let w = wait_before_less f.waits k (place_of u.session) q n h in
          let b = l.waits i u at is q w.0 w.1 in
          let q = w.2 in omega arith;
    }

-- nothing is flushed, and the store is whole
pub kept_keeps : (limit : ℕ) (start : Contents) (us : List PastUnit) (f : Flush) (d e : DiskState) → EachRepresents e limit f.before → InLife limit start us f d → InLife limit start us (kept f) e
kept_keeps limit start us f d e each l = record {
  gone = l.gone;
  rest = l.rest;
  made = l.made;
  sound = l.sound;
  count = l.count;
  limit_is = l.limit_is;
  contents = l.contents;
  first_map = l.first_map;
  aim = l.first_map ∙ ap (λ cs. items_of (applied start cs)) (sym (append-nil l.gone));
  held = omega arith;
  whole = λ _ _. refl;
  disk = λ image left. inl (each image left);
  answered = l.answered;
  waits = l.waits;
}

-- the store breaks: the target is kept
pub broken_keeps : (limit : ℕ) (start : Contents) (us : List PastUnit) (f : Flush) (d e : DiskState) → EachIsEither e limit f.before (target f) → InLife limit start us f d → InLife limit start us (broken f) e
broken_keeps limit start us f d e each l = record {
  gone = l.gone;
  rest = l.rest;
  made = l.made;
  sound = l.sound;
  count = l.count;
  limit_is = l.limit_is;
  contents = l.contents;
  first_map = l.first_map;
  aim = l.aim;
  held = l.held;
  whole = λ w _. cc;
  disk = each;
  answered = l.answered;
  waits = λ i u at is q n h. l.waits i u at is q n (wait_before_cut f.waits (place_of u.session) q n h);
}

-- the store is worn: nothing is flushed from now on
pub worn_keeps : (limit : ℕ) (start : Contents) (us : List PastUnit) (f : Flush) (d e : DiskState) → EachRepresents e limit f.before → InLife limit start us f d → InLife limit start us (worn f) e
worn_keeps limit start us f d e each l = record {
  gone = l.gone;
  rest = l.rest;
  made = l.made;
  sound = l.sound;
  count = l.count;
  limit_is = l.limit_is;
  contents = l.contents;
  first_map = l.first_map;
  aim = l.first_map ∙ ap (λ cs. items_of (applied start cs)) (sym (append-nil l.gone));
  held = omega arith;
  whole = λ w _. cc;
  disk = λ image left. inl (each image left);
  answered = l.answered;
  waits = λ i u at is q n h. l.waits i u at is q n (wait_before_cut f.waits (place_of u.session) q n h);
}

-- what a job's end says of the disk, under the names of the invariant
stands_as : (e : DiskState) (limit own : ℕ) (map other : List Item) (f : Flush) → limit ≡ f.limit → f.limit ≡ own → map ≡ other → EachRepresents e limit map → EachRepresents e own other
stands_as e limit own map other f a b c h = subst₂ (λ (n : ℕ) (m : List Item). EachRepresents e n m) (a ∙ b) c h

pub end_keeps : (limit : ℕ) (start : Contents) (us : List PastUnit) (f new : Flush) (d e : DiskState) (finished : JobEnd) → IsExpected f finished → FlushGives f finished new → IsTrueOf (target f) finished e
    → InLife limit start us f d → InLife limit start us new e
end_keeps limit start us f new d e (Stored n map) exp is each l =
    rw is (stored_keeps limit start us f d e (stands_as e n limit map (target f) f exp.0 l.limit_is exp.1 each) l)
end_keeps limit start us f new d e (Unstarted n map edits unstarted.Memory) exp is each l =
    rw is (kept_keeps limit start us f d e (stands_as e n limit map f.before f exp.0 l.limit_is exp.1 each) l)
end_keeps limit start us f new d e (Unstarted n map edits unstarted.Worn) exp is each l =
    rw is (worn_keeps limit start us f d e (stands_as e n limit map f.before f exp.0 l.limit_is exp.1 each) l)
end_keeps limit start us f new d e (Failed n map edits cause) exp is each l =
    rw is (broken_keeps limit start us f d e (subst₂ (λ (k : ℕ) (m : List Item). EachIsEither e k m (target f)) (exp.0 ∙ l.limit_is) exp.1 each) l)
end_keeps limit start us f new d e (Reopened n map) exp is each l =
    elim is [
      | inl all ↦ rw all.1 (stored_keeps limit start us f d e (stands_as e n limit map (target f) f exp.0 l.limit_is all.0 each) l)
      | inr none ↦ rw none.1 (kept_keeps limit start us f d e (elim exp.1 [
        | inl h ↦ stands_as e n limit map f.before f exp.0 l.limit_is h each
        | inr h ↦ absurd (none.0 h)
      ]) l)
    ]
