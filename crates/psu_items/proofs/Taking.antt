-- Reading the map, and closing the older root's gate: the images that are possible at each moment.
use Rattle.std.proofs.Common.{◌≡◌, ◌≢◌, ℕ, List, map, sym, ◌∙◌, ap, subst}
use Rattle.psu_disk.specs.Disk.{IsCrashImage, SameBut, Follows, LeavesOnly}
use Rattle.psu_disk.specs.Moments.{and_then, weaken}
use Rattle.psu_disk.specs.Ranges.{reads_left, same_but_refl}
use Rattle.psu_disk.specs.declared.disk.Disk.{Ghosts}
use Rattle.psu_map.specs.Map.{Item as MapItem}
use Rattle.psu_map.specs.Capacity.{IsMapOf}
use Rattle.psu_pages.specs.declared.faults.OpenCause.{OpenCause}
use Rattle.psu_pages.specs.declared.faults.OpenCause.TheVariants.{Device}
use Rattle.psu_pages.specs.declared.faults.PageFault.{PageFault}
use Rattle.psu_pages.specs.declared.faults.PageFault.TheVariants as unread
use Rattle.psu_pages.specs.declared.pages.Pages.{Pages}
use Rattle.psu_pages.specs.declared.root.Root.{Root}
use Rattle.psu_pages.specs.declared.standing.Standing.TheVariants.{Unsure}
use Rattle.psu_pages.specs.Image.{Head, other, gate_at}
use Rattle.psu_pages.specs.Shown.{Item, items_in, Encodes}
use Rattle.psu_pages.specs.Outcome.{Closes, EncodesPages, HasSameHeads}
use Rattle.psu_items.specs.Image.{as_item, listed, shown_in}
use Rattle.psu_items.specs.Finding.{IsUnread}

-- the heads and the items that they show are unchanged
module _ {D A : Type 0} {G : Ghosts D} (old mid : Pages D A G) (same : HasSameHeads old mid) where
  pub encodes_on : items_in mid.root (Ghosts.state G mid.disk).bytes ≡ items_in old.root (Ghosts.state G old.disk).bytes → (image : List ℕ) → EncodesPages mid image → EncodesPages old image
  encodes_on items image encodes =
      let heads : mid.heads.items ≡ old.heads.items = ap (λ v. v.items) same.heads in
      subst (λ (is : List Item). Encodes old.root old.version old.limit old.number old.heads.items is image) items
      (subst (λ (hs : List Head). Encodes old.root old.version old.limit old.number hs (items_in mid.root (Ghosts.state G mid.disk).bytes) image) heads
      (subst (λ (n : ℕ). Encodes old.root old.version old.limit n mid.heads.items (items_in mid.root (Ghosts.state G mid.disk).bytes) image) same.number
      (subst (λ (n : ℕ). Encodes old.root old.version n mid.number mid.heads.items (items_in mid.root (Ghosts.state G mid.disk).bytes) image) same.limit
      (subst (λ (n : ℕ). Encodes old.root n mid.limit mid.number mid.heads.items (items_in mid.root (Ghosts.state G mid.disk).bytes) image) same.version
      (subst (λ (r : Root). Encodes r mid.version mid.limit mid.number mid.heads.items (items_in mid.root (Ghosts.state G mid.disk).bytes) image) same.root encodes)))))

  pub encodes_on_run : (new : D) → items_in mid.root (Ghosts.state G mid.disk).bytes ≡ items_in old.root (Ghosts.state G old.disk).bytes
      → LeavesOnly (Ghosts.moment G) (Ghosts.left_since G) old.disk mid.disk (EncodesPages old) → LeavesOnly (Ghosts.moment G) (Ghosts.left_since G) mid.disk new (EncodesPages mid)
      → LeavesOnly (Ghosts.moment G) (Ghosts.left_since G) old.disk new (EncodesPages old)
  encodes_on_run new items first second = and_then (Ghosts.moment G) (Ghosts.left_since G) old.disk mid.disk new (EncodesPages old) (EncodesPages mid) first second (encodes_on items)

  pub encodes_back : (Ghosts.state G mid.disk).bytes ≡ (Ghosts.state G old.disk).bytes → (image : List ℕ) → EncodesPages mid image → EncodesPages old image
  encodes_back seen = encodes_on (ap (λ (r : Root). items_in r (Ghosts.state G mid.disk).bytes) same.root ∙ ap (items_in old.root) seen)

  pub closes_back : ((x : List ℕ) → IsCrashImage (Ghosts.state G mid.disk) x → IsCrashImage (Ghosts.state G old.disk) x) → (x : List ℕ) → Closes mid x → Closes old x
  closes_back fewer x reaches = (reaches.0, fewer reaches.0 reaches.1, subst (λ (r : Root). SameBut (gate_at (other r)) 1 reaches.0 x) same.root reaches.2)

  pub follows_back : ((x : List ℕ) → IsCrashImage (Ghosts.state G mid.disk) x → IsCrashImage (Ghosts.state G old.disk) x) → (new : D)
      → Follows (SameBut (gate_at (other mid.root)) 1) (IsCrashImage (Ghosts.state G mid.disk)) (IsCrashImage (Ghosts.state G new)) → Follows (SameBut (gate_at (other old.root)) 1) (IsCrashImage (Ghosts.state G old.disk)) (IsCrashImage (Ghosts.state G new))
  follows_back fewer new follows x l = let y = follows x l in closes_back fewer x y

  pub encodes_run : (new : D) → ((x : List ℕ) → IsCrashImage (Ghosts.state G old.disk) x → EncodesPages old x) → (Ghosts.state G mid.disk).bytes ≡ (Ghosts.state G old.disk).bytes
      → LeavesOnly (Ghosts.moment G) (Ghosts.left_since G) old.disk mid.disk (IsCrashImage (Ghosts.state G old.disk)) → LeavesOnly (Ghosts.moment G) (Ghosts.left_since G) mid.disk new (EncodesPages mid)
      → LeavesOnly (Ghosts.moment G) (Ghosts.left_since G) old.disk new (EncodesPages old)
  encodes_run new represented seen first second =
      and_then (Ghosts.moment G) (Ghosts.left_since G) old.disk mid.disk new (EncodesPages old) (EncodesPages mid) (weaken (Ghosts.moment G) (Ghosts.left_since G) old.disk mid.disk (IsCrashImage (Ghosts.state G old.disk)) (EncodesPages old) first represented) second (encodes_back seen)

  pub closes_run : (new : D) → ((x : List ℕ) → IsCrashImage (Ghosts.state G mid.disk) x → IsCrashImage (Ghosts.state G old.disk) x)
      → LeavesOnly (Ghosts.moment G) (Ghosts.left_since G) old.disk mid.disk (IsCrashImage (Ghosts.state G old.disk)) → LeavesOnly (Ghosts.moment G) (Ghosts.left_since G) mid.disk new (Closes mid)
      → LeavesOnly (Ghosts.moment G) (Ghosts.left_since G) old.disk new (Closes old)
  closes_run new fewer first second =
      and_then (Ghosts.moment G) (Ghosts.left_since G) old.disk mid.disk new (Closes old) (Closes mid) (weaken (Ghosts.moment G) (Ghosts.left_since G) old.disk mid.disk (IsCrashImage (Ghosts.state G old.disk)) (Closes old) first (λ x l. (x, l, same_but_refl (gate_at (other old.root)) 1 x))) second (closes_back fewer)

-- the current root shows the same items
pub shown_back : {D A : Type 0} {G : Ghosts D} (old new : Pages D A G) (m : List MapItem) → old.standing ≢ Unsure → Ghosts.honest G → items_in new.root (Ghosts.state G new.disk).bytes ≡ items_in old.root (Ghosts.state G old.disk).bytes
    → IsMapOf m (listed (Ghosts.state G old.disk).bytes old.heads.items) → IsMapOf m (shown_in new.root (Ghosts.state G new.disk).bytes)
shown_back {D} {A} {G} old new m sure h same of =
    let bytes = (Ghosts.state G old.disk).bytes in
    let encodes = old.encodes h sure bytes (reads_left (Ghosts.state G old.disk)) in
    let mine : IsMapOf m (shown_in old.root bytes) = subst (λ (hs : List Head). IsMapOf m (listed bytes hs)) (sym encodes.has_contents.heads_are) of in
    subst (λ (is : List Item). IsMapOf m (map as_item is)) (sym same) mine

-- if the cause is not `Device`, neither is the fault
pub not_device : (fault : PageFault) (cause : OpenCause) → IsUnread fault cause → cause ≢ Device → fault ≢ unread.Device
not_device unread.NoPage cause is not = absurd is
not_device unread.Device cause is not = absurd (not is)
not_device unread.Memory cause is not = λ same. cc

-- two steps leave the heads unchanged if each does
pub same_on : {D A : Type 0} {G : Ghosts D} (old mid new : Pages D A G) → HasSameHeads old mid → HasSameHeads mid new → HasSameHeads old new
same_on old mid new first second = record { root = second.root ∙ first.root; version = second.version ∙ first.version; limit = second.limit ∙ first.limit; number = second.number ∙ first.number; heads = second.heads ∙ first.heads; older = second.older ∙ first.older; free = second.free ∙ first.free }
