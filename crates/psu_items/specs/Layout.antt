-- The heads that the next root is to name.
use Rattle.std.specs.Prelude.{◌≡◌, ℕ, ◌+◌, ◌==◌, ◌<◌, true, false, List, [], ◌∷◌, length, map, slice_index_or, Option, Some, None}
use Rattle.std.specs.List.{AllByRecursion, list_any}
use Rattle.psu_disk.specs.declared.disk.Disk.{Ghosts}
use Rattle.psu_map.specs.Map.{Item, get}
use Rattle.psu_pages.specs.Image.{Head, taken, keys, AreApart, pages_of}
use Rattle.psu_pages.specs.Free.{is_free}
use Rattle.psu_pages.specs.Writing.{IsWritten}
use Rattle.psu_pages.specs.Outcome.{IsPlanned}
use Rattle.psu_pages.specs.declared.pages.Pages.{Pages}
use Rattle.psu_map.specs.Batch.{Edit, KeepsValue}
use Rattle.psu_map.specs.Target.{Entry, standing}
use Rattle.psu_items.specs.declared.layout.Layout.{Layout}
use Rattle.psu_items.specs.declared.layout.Slot.{Slot}

-- the head at this place has the item's key, and the length of its value
pub record HasHead (heads : List Head) (item : Item) (at : ℕ) : Type 0 where
  pub within : at < length heads
  pub key_is : (d : Head) → (let head = slice_index_or heads at d in head.key) ≡ item.key
  pub size_is : (d : Head) → (let head = slice_index_or heads at d in head.size) ≡ length item.value

-- the head is one of these heads
abbrev pub IsOneOf : List Head → Head → Type 0
IsOneOf heads head = (at : ℕ) × (at < length heads) × (slice_index_or heads at head ≡ head)

-- heads as slots, with the first one at place `at`: the slots at these places are new
abbrev pub slots_from : {A : Type 0} → ℕ → List Head → List ℕ → List (Slot A)
slots_from at [] places = []
slots_from at (head ∷ heads) places = record { head = head; is_new = list_any (λ place. place == at) places } ∷ slots_from (at + 1) heads places

-- the slots of a layout
abbrev pub slots_of : {A : Type 0} → Layout A → List (Slot A)
slots_of layout = slots_from 0 layout.heads.items layout.unwritten.items

-- the heads of slots, in their order
abbrev pub heads_of : {A : Type 0} → List (Slot A) → List Head
heads_of {A} slots = map (λ (slot : Slot A). slot.head) slots

-- the keys of items, in their order
abbrev pub keys_in : List Item → List (List ℕ)
keys_in items = map (λ (item : Item). item.key) items

-- the value that a map has at a key; empty where it has none
abbrev pub value_of : Option (List ℕ) → List ℕ
value_of None = []
value_of (Some value) = value

abbrev pub value_at : List Item → List ℕ → List ℕ
value_at map key = value_of (get map key)

-- a slot for an item: with pages planned since `old`, or with a head that is named already, where the map before has
-- the same item
pub record IsSlotFor {D A : Type 0} {G : Ghosts D} (old new : Pages D A G) (before : List Item) (item : Item) (slot : Slot A) : Type 0 where
  pub key_is : slot.head.key ≡ item.key
  pub size_is : slot.head.size ≡ length item.value
  pub planned : slot.is_new ≡ true → IsPlanned new slot.head
  pub were_free : slot.is_new ≡ true → AllByRecursion (λ (page : ℕ). is_free old.free page ≡ true) (pages_of slot.head)
  pub kept : slot.is_new ≡ false → IsOneOf old.heads.items slot.head
  pub stands : slot.is_new ≡ false → get before item.key ≡ Some item.value

-- a slot for an item of the target
pub record IsSlot {D A : Type 0} {G : Ghosts D} (pages : Pages D A G) (before target : List Item) (slot : Slot A) : Type 0 where
  pub has : get target slot.head.key ≡ Some (value_at target slot.head.key)
  pub size_is : slot.head.size ≡ length (value_at target slot.head.key)
  pub planned : slot.is_new ≡ true → IsPlanned pages slot.head
  pub kept : slot.is_new ≡ false → IsOneOf pages.heads.items slot.head
  pub stands : slot.is_new ≡ false → get before slot.head.key ≡ get target slot.head.key

-- the slots have each of these heads that has the key and the length of an unchanged entry
abbrev pub HaveStanding : {A : Type 0} → List Entry → List Head → List (Slot A) → Type 0
HaveStanding entries heads slots = (head : Head) (value : List ℕ) → IsOneOf heads head → standing entries head.key ≡ Some value → head.size ≡ length value → IsOneOf (heads_of slots) head

-- the new heads have each of the old heads that is of an item whose value the edits keep
abbrev pub HaveKept : List Edit → List Item → List Head → List Head → Type 0
HaveKept edits map old new = (head : Head) (value : List ℕ) → IsOneOf old head → get map head.key ≡ Some value → KeepsValue edits head.key value → head.size ≡ length value → IsOneOf new head

-- slots for these items of the target, no page used twice
pub record AreSlots {D A : Type 0} {G : Ghosts D} (pages : Pages D A G) (before target items : List Item) (slots : List (Slot A)) : Type 0 where
  pub keys_are : keys (heads_of slots) ≡ keys_in items
  pub each : AllByRecursion (IsSlot pages before target) slots
  pub apart : AreApart (taken (heads_of slots))

-- the slot's key is one of the map, and its head has the length of that key's value
pub record IsSized {A : Type 0} (target : List Item) (slot : Slot A) : Type 0 where
  pub has : get target slot.head.key ≡ Some (value_at target slot.head.key)
  pub size_is : slot.head.size ≡ length (value_at target slot.head.key)

-- a head that is not new is on its page, and its pages hold the value that the target has
abbrev pub StandsWritten : {A : Type 0} → List ℕ → List Item → Slot A → Type 0
StandsWritten image target slot = slot.is_new ≡ false → IsWritten image slot.head (value_at target slot.head.key)
