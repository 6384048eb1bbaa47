-- The invariant of the world after any events, and what follows for possible crash images.
use Rattle.std.proofs.Common.{◌≡◌, inl, inr, ℕ, zero, suc, ◌+◌, ◌≤◌, Bool, true, false, Option, Some, None, List, [], ◌++◌, length, take, slice_get, get_or, refl, sym, ap, subst, replicate, ◌∙◌, arith, append-nil}
use Rattle.std.proofs.Math.Seq.{take-append-add}
use Rattle.std.proofs.lemmas.Grind.{same_number_lists}
use Rattle.psu_disk.specs.Disk.{DiskState, IsCrashImage}
use Rattle.psu_map.specs.Map.{Item}
use Rattle.psu_items.specs.Image.{Represents, EachRepresents, EachIsEither}
use Rattle.psu_nv.specs.Commands.{applied, Command as Change}
use Rattle.psu_nv.specs.Contents.{items_of, Contents}
use Rattle.psu_exec.specs.Device.{count_held, Flush, target, is_whole, wait_of, power_on}
use Rattle.psu_exec.specs.declared.waits.Wait.{Wait}
use Rattle.psu_instrument.specs.declared.act.Completion.{Completion}
use Rattle.psu_exec.specs.declared.waits.Wait.TheVariants.{Until}
use Rattle.psu_power_loss.specs.World.{World, Mode, Running, Stopped, Restarting, PastUnit, Waits, changes, before, after, is_answered, answered, without_power, IsStart}
use Rattle.psu_exec.specs.Consistent.{AreSound, MayBeKept}
use Rattle.psu_power_loss.specs.Headline.{IsPrefix}
use Rattle.psu_exec.proofs.Changes.{sound_front, sound_after}
use Rattle.psu_power_loss.proofs.Histories.{longest_prefix, answered_is, place_within}

-- while power is on. gone: the changes that are flushed; rest: those that are not
pub record InLife (limit : ℕ) (start : Contents) (history : List PastUnit) (f : Flush) (d : DiskState) : Type 0 where
  pub gone : List Change
  pub rest : List Change
  pub made : changes history ≡ gone ++ rest
  pub sound : AreSound limit start (gone ++ rest)
  pub count : f.unflushed ≡ length rest
  pub limit_is : f.limit ≡ limit
  pub contents : f.contents ≡ applied start (gone ++ rest)
  pub first_map : f.before ≡ items_of (applied start gone)
  pub aim : target f ≡ items_of (applied start (gone ++ take (count_held f.held) rest))
  pub held : count_held f.held ≤ length rest
  pub whole : is_whole f.store ≡ true → f.out ≡ false → f.held ≡ None
  pub disk : EachIsEither d limit f.before (target f)
  pub answered : (i : ℕ) (u : PastUnit) → slice_get history i ≡ Some u → is_answered u ≡ true → before history i ≤ length gone
  pub waits : (i : ℕ) (u : PastUnit) → slice_get history i ≡ Some u → u.fate ≡ Waits → (q : Completion) (n : ℕ) → wait_of f u.session ≡ Some (Until q n) → before history i ≤ length gone + n

-- a prefix whose contents an image represents
pub record PrefixAt (w : World) (image : List ℕ) : Type 0 where
  pub k : ℕ
  pub prefix : IsPrefix w k
  pub kept : MayBeKept w.limit (after w k)
  pub stands : Represents image w.limit (items_of (after w k))

-- without power: each possible crash image of a disk represents the contents after such a prefix
abbrev pub InDark : World → DiskState → Type 0
InDark w disk = (image : List ℕ) → IsCrashImage disk image → PrefixAt w image

abbrev pub ByMode : Mode → World → Type 0
ByMode Running w = InLife w.limit w.start w.history w.state.flush w.disk
ByMode Stopped w = InDark w w.disk
ByMode (Restarting begun) w = InDark w begun × InDark w w.disk

abbrev pub IsKept : World → Type 0
IsKept w = ByMode w.mode w

-- the flushed changes and n more are those of a prefix that includes what was answered
prefix_of : (w : World) (l : InLife w.limit w.start w.history w.state.flush w.disk) (n : ℕ) → n ≤ length l.rest
    → (k : ℕ) × IsPrefix w k × (after w k ≡ applied w.start (l.gone ++ take n l.rest)) × MayBeKept w.limit (after w k)
prefix_of w l n h =
    let f = longest_prefix w.history (length l.gone + n) in
    let front : take (length l.gone + n) (l.gone ++ l.rest) ≡ l.gone ++ take n l.rest = take-append-add l.gone l.rest n in
    let same : changes (take f.k w.history) ≡ l.gone ++ take n l.rest = f.same ∙ (ap (take (length l.gone + n)) l.made ∙ front) in (
      f.k,
      record {
        from = elim (answered_is w.history) [
          | inl e ↦ let g : answered w.history ≡ 0 = e in omega arith
          | inr a ↦ f.greatest (answered w.history) (let lt = place_within w.history (answered w.history) a.unit a.at in omega arith) (let le = l.answered (answered w.history) a.unit a.at a.is in omega arith)
        ];
        to = f.to;
      },
      ap (applied w.start) same,
      sound_after w.limit w.start (changes (take f.k w.history)) (rw (same, sym front) (sound_front w.limit w.start (l.gone ++ l.rest) (length l.gone + n) l.sound)),
    )

-- the possible crash images while power is on
pub left_in_life : (w : World) → InLife w.limit w.start w.history w.state.flush w.disk → (image : List ℕ) → IsCrashImage w.disk image → PrefixAt w image
left_in_life w l image left =
    elim (l.disk image left) [
      | inl s ↦ let p = prefix_of w l 0 (omega arith) in
          let e : w.state.flush.before ≡ items_of (after w p.0) = l.first_map ∙ ap items_of (ap (applied w.start) (sym (append-nil l.gone)) ∙ sym p.2) in
          record { k = p.0; prefix = p.1; kept = p.3; stands = subst (λ (m : List Item). Represents image w.limit m) e s }
      | inr s ↦ let p = prefix_of w l (count_held w.state.flush.held) l.held in
          let e : target w.state.flush ≡ items_of (after w p.0) = l.aim ∙ ap items_of (sym p.2) in
          record { k = p.0; prefix = p.1; kept = p.3; stands = subst (λ (m : List Item). Represents image w.limit m) e s }
    ]

-- in each mode
left_by_mode : (w : World) (m : Mode) → ByMode m w → (image : List ℕ) → IsCrashImage w.disk image → PrefixAt w image
left_by_mode w Running l image left = left_in_life w l image left
left_by_mode w Stopped dark image left = dark image left
left_by_mode w (Restarting begun) dark image left = dark.1 image left

pub prefix_left : (w : World) → IsKept w → (image : List ℕ) → IsCrashImage w.disk image → PrefixAt w image
prefix_left w kept image left = left_by_mode w w.mode kept image left

-- a prefix remains one if the disk and the mode change
pub prefix_moved : (w : World) (d : DiskState) (m : Mode) (image : List ℕ) → PrefixAt w image → PrefixAt (record w { disk = d; mode = m }) image
prefix_moved w d m image p = record { k = p.k; prefix = record { from = p.prefix.from; to = p.prefix.to }; kept = p.kept; stands = p.stands }

-- nothing is torn where no byte is flagged
pub only_left : (image other : List ℕ) → IsCrashImage (without_power image) other → other ≡ image
unfolding IsCrashImage
only_left image other left = same_number_lists other image left.size (λ i _. left.same i (none i)) where
  none : (i : ℕ) → get_or (let xs : List Bool = [] in xs) i false ≡ false
  none zero = refl
  none (suc i) = refl

-- a device that has just been powered on has no wait
no_wait : (n place : ℕ) → get_or (replicate n (let w : Option Wait = None in w)) place None ≡ None
no_wait (suc n) (suc place) = no_wait n place
no_wait other another = refl

-- the invariant at power-on
pub life_begins : (limit : ℕ) (start : Contents) (d : DiskState) → MayBeKept limit start → EachRepresents d limit (items_of start) → InLife limit start [] (power_on limit start).flush d
life_begins limit start d kept each = record {
  gone = [];
  rest = [];
  made = refl;
  sound = kept;
  count = refl;
  limit_is = refl;
  contents = refl;
  first_map = refl;
  aim = refl;
  held = omega arith;
  whole = λ _ _. refl;
  disk = λ image left. inl (each image left);
  answered = λ i u at is. cc;
  waits = λ i u at is q n h. cc;
}

-- the invariant of a world by its mode
in_mode : (w : World) (m : Mode) → w.mode ≡ m → ByMode m w → ByMode w.mode w
in_mode w m e h = subst (λ n. ByMode n w) (sym e) h

pub kept_at_start : (w : World) → IsStart w → IsKept w
kept_at_start w s = in_mode w Running s.mode (rw (s.history, s.state) (life_begins w.limit w.start w.disk (record { sound = s.sound; fitting = s.fitting }) s.disk))
