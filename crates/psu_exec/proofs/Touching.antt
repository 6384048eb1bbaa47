-- A part that has not changed needs no edit, and a change leaves each part but its own.
use Rattle.std.proofs.Common.{◌≡◌, ◌≢◌, ◌⊎◌, ◌&&◌, ◌||◌, is_some, ℕ, zero, suc, ◌<◌, Bool, true, false, cond, Option, Some, None, List, [], ◌∷◌, ◌++◌, length, map, refl, sym, ap, ◌∙◌, subst, inl, inr, append-nil, slice_index_or, slice_set, replicate}
use Rattle.std.proofs.lemmas.List.{get_or-set_other}
use Rattle.std.specs.List.{flat_map, AllByRecursion}
use Rattle.psu_map.specs.Map.{Item, item_of, get, IsSorted}
use Rattle.psu_map.specs.Batch.{Edit}
use Rattle.psu_map.proofs.Keys.{same_true}
use Rattle.psu_map.proofs.Lists.{all_at}
use Rattle.psu_map.proofs.Maps.{all_own}
use Rattle.psu_settings.specs.declared.output_settings.OutputSettings.{OutputSettings}
use Rattle.psu_settings.specs.Settings.{bytes_of, is_reset, reset}
use Rattle.psu_status.specs.declared.groups.Enables.{Enables}
use Rattle.psu_nv.specs.Commands.{Command, ServiceEnable, EventEnable, PowerOnClear, Save, User, DefineMacro, RemoveMacro, PurgeMacros, StoreBytes, Delete, Copy, Move, StoreState, LoadState, StoreMacro, LoadMacro, Recall, apply, settings_at}
use Rattle.psu_nv.specs.Contents.{Contents, Macro, enables_items, file_item, items_of, macros_items, macro_bytes, recall_items, register_items, user_items}
use Rattle.psu_nv.specs.Parts as kept
use Rattle.psu_nv.specs.Parts.{Part, file_items, key_of, part_items, value_in}
use Rattle.psu_nv.specs.Decoding.{has_keys, is_key}
use Rattle.psu_nv.proofs.Gets.{part_found, value_file, value_register}
use Rattle.psu_nv.proofs.Kept.{IsPart, PartAt, part_at}
use Rattle.psu_exec.specs.Batch.{assignment, is_value, removal}
use Rattle.psu_exec.specs.Changed.{IsUnchanged, KeepsOthers, is_changed, with_change, with_register, Parts}
use Rattle.psu_exec.specs.Consistent.{IsConsistent}
use Rattle.psu_exec.specs.Device.{Flush, Target, is_broken, map_held, target}
use Rattle.psu_exec.specs.declared.idle_store.Condition.TheVariants.{Whole}

-- ---- what has not changed

-- an item that is there needs no assignment
pub there : (before : List Item) (key value : List ℕ) → get before key ≡ Some value → assignment before (item_of key value) ≡ []
there before key value e =
    ap (λ (o : Option (List ℕ)). cond (is_value value o) [] (record { key = key; value = Some value } ∷ [])) e
    ∙ ap (λ (b : Bool). cond b [] (record { key = key; value = Some value } ∷ [])) (same_true value value refl)

-- a part is kept as no item, or as one under its key
abbrev IsAlone : Part → List Item → Type 0
IsAlone part items = (items ≡ []) ⊎ ((value : List ℕ) × (items ≡ item_of (key_of part) value ∷ []))

alone : (c : Contents) (part : Part) → IsAlone part (part_items c part)
alone c kept.Enables = at c.enables
  where
    at : (e : Option Enables) → IsAlone kept.Enables (enables_items e)
    at None = inl refl
    at (Some e) = inr (e.sre ∷ e.ese ∷ [], refl)
alone c (kept.Register number) = at (settings_at c.registers number) (is_reset (settings_at c.registers number))
  where
    at : (s : List OutputSettings) (b : Bool) → IsAlone (kept.Register number) (cond b [] (item_of (2 ∷ number ∷ []) (bytes_of s) ∷ []))
    at s true = inl refl
    at s false = inr (bytes_of s, refl)
alone c kept.User = at c.user
  where
    at : (bytes : List ℕ) → IsAlone kept.User (user_items bytes)
    at [] = inl refl
    at (byte ∷ bytes) = inr (byte ∷ bytes, refl)
alone c kept.Macros = at c.macros
  where
    at : (macros : List Macro) → IsAlone kept.Macros (macros_items macros)
    at [] = inl refl
    at (m ∷ macros) = inr (flat_map macro_bytes (m ∷ macros), refl)
alone c (kept.File name) = at (get c.files name)
  where
    at : (found : Option (List ℕ)) → IsAlone (kept.File name) (file_items name found)
    at None = inl refl
    at (Some value) = inr (value, refl)
alone c kept.Recall = at c.recall
  where
    at : (on : Bool) → IsAlone kept.Recall (recall_items on)
    at false = inl refl
    at true = inr (1 ∷ [], refl)

pub unchanged_part : (p : Parts) (before : List Item) (c : Contents) (part : Part) → KeepsOthers p before (items_of c) → is_changed p part ≡ false → flat_map (assignment before) (part_items c part) ≡ []
unchanged_part p before c part keeps same = at (alone c part)
  where
    at : IsAlone part (part_items c part) → flat_map (assignment before) (part_items c part) ≡ []
    at (inl none) = ap (flat_map (assignment before)) none
    at (inr (value, one)) =
        ap (flat_map (assignment before)) one ∙ append-nil (assignment before (item_of (key_of part) value))
        ∙ there before (key_of part) value (keeps part same ∙ part_found c part ∙ ap value_in one)

pub unchanged_register : (p : Parts) (before : List Item) (c : Contents) (number : ℕ) → KeepsOthers p before (items_of c) → is_changed p (kept.Register number) ≡ false
    → flat_map (assignment before) (register_items number (settings_at c.registers number)) ≡ []
unchanged_register p before c number keeps same = unchanged_part p before c (kept.Register number) keeps same

pub unchanged_files : (p : Parts) (before : List Item) (c : Contents) → KeepsOthers p before (items_of c) → p.files ≡ false → IsSorted c.files → flat_map (assignment before) (map file_item c.files) ≡ []
unchanged_files p before c keeps none sorted = each c.files (all_own c.files sorted)
  where
    each : (files : List Item) → AllByRecursion (λ (i : Item). get c.files i.key ≡ Some i.value) files → flat_map (assignment before) (map file_item files) ≡ []
    each [] own = refl
    each (i ∷ files) own =
        ap (λ (l : List Edit). l ++ flat_map (assignment before) (map file_item files))
        (there before (5 ∷ i.key) i.value (keeps (kept.File i.key) none ∙ part_found c (kept.File i.key) ∙ value_file i.key (get c.files i.key) ∙ own.0))
        ∙ each files own.1

-- an item stays if the part of its key has not changed
pub stays_there : (p : Parts) (before new : List Item) (n : ℕ) (i : Item) → KeepsOthers p before new → IsSorted before → n < length before → i ≡ slice_index_or before n i → IsUnchanged p i.key → is_some (get new i.key) ≡ true
stays_there p before new n i keeps sorted within at part =
    let own : get before i.key ≡ Some i.value = subst (λ (j : Item). get before j.key ≡ Some j.value) (sym at) (all_at (λ (j : Item). get before j.key ≡ Some j.value) before n i within (all_own before sorted)) in
    let kept : get before i.key ≡ get new i.key = subst (λ (k : List ℕ). get before k ≡ get new k) (sym part.1) (keeps part.0 part.2) in
    ap is_some (sym kept ∙ own)

and_false : (a b : Bool) → b ≡ false → a && b ≡ false
and_false true b e = e
and_false false b e = refl

both : (a b : Bool) → a && b ≡ true → (a ≡ true) × (b ≡ true)
both true b e = (refl, e)
both false b e = absurd cc

-- where no part but registers may have changed, and each of these has an item, no item of a map of parts is gone
pub none_gone : (p : Parts) (before : List Item) (c : Contents) → has_keys before ≡ true → IsSorted before → KeepsOthers p before (items_of c)
    → (p.enables ≡ false) × (p.user ≡ false) × (p.macros ≡ false) × (p.files ≡ false) × (p.recall ≡ false)
    → ((n : ℕ) → n < 100 → is_changed p (kept.Register n) ≡ true → is_reset (settings_at c.registers n) ≡ false) → flat_map (removal (items_of c)) before ≡ []
none_gone p before c keys sorted keeps others has = each before keys (all_own before sorted)
  where
    never : (b : Bool) (part : Part) → b ≡ true → b ≡ false → is_some (get (items_of c) (key_of part)) ≡ true
    never b part e f = absurd (let bad : true ≡ false = sym e ∙ f in cc)

    changed : (part : Part) → IsPart part → is_changed p part ≡ true → is_some (get (items_of c) (key_of part)) ≡ true
    changed kept.Enables is e = never p.enables kept.Enables e others.0
    changed (kept.Register n) is e =
        let s = settings_at c.registers n in
        ap is_some (part_found c (kept.Register n) ∙ value_register n s ∙ ap (λ (b : Bool). cond b None (Some (bytes_of s))) (has n is e))
    changed kept.User is e = never p.user kept.User e others.1
    changed kept.Macros is e = never p.macros kept.Macros e others.2
    changed (kept.File name) is e = never p.files (kept.File name) e others.3
    changed kept.Recall is e = never p.recall kept.Recall e others.4

    stays : (part : Part) (value : List ℕ) (b : Bool) → IsPart part → is_changed p part ≡ b → get before (key_of part) ≡ Some value → is_some (get (items_of c) (key_of part)) ≡ true
    stays part value true is e own = changed part is e
    stays part value false is e own = ap is_some (sym (keeps part e) ∙ own)

    one : (i : Item) → PartAt i.key → get before i.key ≡ Some i.value → is_some (get (items_of c) i.key) ≡ true
    one i at own =
        subst (λ (k : List ℕ). is_some (get (items_of c) k) ≡ true) (sym at.key_is)
        (stays at.part i.value (is_changed p at.part) at.is refl (subst (λ (k : List ℕ). get before k ≡ Some i.value) at.key_is own))

    each : (items : List Item) → has_keys items ≡ true → AllByRecursion (λ (i : Item). get before i.key ≡ Some i.value) items → flat_map (removal (items_of c)) items ≡ []
    each [] keys own = refl
    each (i ∷ items) keys own =
        let k = both (is_key i.key) (has_keys items) keys in
        let gone : List Edit = record { key = i.key; value = None } ∷ [] in
        ap (λ (b : Bool). cond b [] gone ++ flat_map (removal (items_of c)) items) (one i (part_at i.key k.0) own.0) ∙ each items k.1 own.1

-- ---- the parts that a change leaves

-- a part that isn't in the larger set was not in the smaller one, and is kept as it was
abbrev LeavesOthers : Parts → Parts → Contents → Contents → Type 0
LeavesOthers p q c d = (part : Part) → is_changed q part ≡ false → (is_changed p part ≡ false) × (value_in (part_items c part) ≡ value_in (part_items d part))

keeps_then : (p q : Parts) (old : List Item) (c d : Contents) → KeepsOthers p old (items_of c) → LeavesOthers p q c d → KeepsOthers q old (items_of d)
keeps_then p q old c d keeps leaves = λ part same. let e = leaves part same in keeps part e.0 ∙ part_found c part ∙ e.1 ∙ sym (part_found d part)

module _ (p : Parts) (c : Contents) where
  enables_alone : (enables : Option Enables) → LeavesOthers p (record p { enables = true }) c (record c { enables = enables })
  enables_alone enables kept.Enables same = cc
  enables_alone enables other same = (same, refl)

  user_alone : (bytes : List ℕ) → LeavesOthers p (record p { user = true }) c (record c { user = bytes })
  user_alone bytes kept.Enables same = (same, refl)
  user_alone bytes (kept.Register number) same = (same, refl)
  user_alone bytes kept.User same = cc
  user_alone bytes kept.Macros same = (same, refl)
  user_alone bytes (kept.File name) same = (same, refl)
  user_alone bytes kept.Recall same = (same, refl)

  macros_alone : (macros : List Macro) → LeavesOthers p (record p { macros = true }) c (record c { macros = macros })
  macros_alone macros kept.Macros same = cc
  macros_alone macros other same = (same, refl)

  files_alone : (files : List Item) → LeavesOthers p (record p { files = true }) c (record c { files = files })
  files_alone files (kept.File name) same = cc
  files_alone files other same = (same, refl)

  recall_alone : (on : Bool) → LeavesOthers p (record p { recall = true }) c (record c { recall = on })
  recall_alone on kept.Recall same = cc
  recall_alone on other same = (same, refl)

  -- a flag that isn't set is another register's, and was not set before
  unset : (marks : List Bool) (r n : ℕ) → slice_index_or (slice_set marks r true) n true ≡ false → (n ≢ r) × (slice_index_or marks n true ≡ false)
  unset (m ∷ marks) zero (suc n) e = ((λ z. cc), e)
  unset (m ∷ marks) (suc r) zero e = ((λ z. cc), e)
  unset (m ∷ marks) (suc r) (suc n) e = let u = unset marks r n e in ((λ z. u.0 (let same : n ≡ r = cc in same)), u.1)
  unset other another third e = cc

  register_alone : (r : ℕ) (settings : List OutputSettings) → LeavesOthers p (with_register p r) c (record c { registers = slice_set c.registers r settings })
  register_alone r settings (kept.Register n) same =
      let u = unset p.registers r n same in (
        and_false p.some_register (slice_index_or p.registers n true) u.1,
        ap (λ (s : List OutputSettings). value_in (register_items n s)) (sym (get_or-set_other c.registers r n settings reset u.0)),
      )
  register_alone r settings other same = (same, refl)

  leaves : (x : Command) → LeavesOthers p (with_change p x) c (apply c x)
  unfolding apply
  leaves (ServiceEnable bits) = enables_alone _
  leaves (EventEnable bits) = enables_alone _
  leaves (PowerOnClear enables) = enables_alone _
  leaves (Save r settings) = register_alone r settings
  leaves (User bytes) = user_alone bytes
  leaves (DefineMacro label body) = macros_alone _
  leaves (RemoveMacro label) = macros_alone _
  leaves PurgeMacros = macros_alone []
  leaves (LoadState r name) = register_alone r _
  leaves (LoadMacro label name) = macros_alone _
  leaves (Recall on) = recall_alone on
  leaves other = files_alone _

pub change_keeps : (p q : Parts) (old : List Item) (c d : Contents) (x : Command) → KeepsOthers p old (items_of c) → q ≡ with_change p x → d ≡ apply c x → KeepsOthers q old (items_of d)
change_keeps p q old c d x keeps touched made =
    subst (λ (r : Parts). KeepsOthers r old (items_of d)) (sym touched) (subst (λ (e : Contents). KeepsOthers (with_change p x) old (items_of e)) (sym made) (keeps_then p (with_change p x) old c (apply c x) keeps (leaves p c x)))

-- ---- all parts, and maps that are the same

pub all_set : (n k : ℕ) → slice_index_or (replicate n true) k true ≡ true
all_set (suc n) (suc k) = all_set n k
all_set other another = refl

pub all_are : (p : Parts) → p.enables ≡ true → ((k : ℕ) → slice_index_or p.registers k true ≡ true) → p.some_register ≡ true → p.user ≡ true → p.macros ≡ true → p.files ≡ true → p.recall ≡ true
    → (part : Part) → is_changed p part ≡ true
all_are p enables registers some user macros files recall kept.Enables = enables
all_are p enables registers some user macros files recall (kept.Register number) = ap (λ (b : Bool). b && slice_index_or p.registers number true) some ∙ registers number
all_are p enables registers some user macros files recall kept.User = user
all_are p enables registers some user macros files recall kept.Macros = macros
all_are p enables registers some user macros files recall (kept.File name) = files
all_are p enables registers some user macros files recall kept.Recall = recall

pub keeps_all : (p : Parts) (old new : List Item) → ((part : Part) → is_changed p part ≡ true) → KeepsOthers p old new
keeps_all p old new all = λ part same. let bad = sym (all part) ∙ same in cc

pub keeps_same : (p : Parts) (old new : List Item) → old ≡ new → KeepsOthers p old new
keeps_same p old new e = λ part same. ap (λ (m : List Item). get m (key_of part)) e

pub keeps_from : (p : Parts) (old other new : List Item) → old ≡ other → KeepsOthers p old new → KeepsOthers p other new
keeps_from p old other new e keeps = subst (λ (m : List Item). KeepsOthers p m new) e keeps

-- while no job is out, the target of a whole store is its map
pub when_idle : (f : Flush) → IsConsistent f → f.out ≡ false → f.store ≡ Whole → target f ≡ f.before
when_idle f c idle_store whole = ap (map_held f.before) (none f.held (c.out ∙ ap (λ (b : Bool). b || is_broken f.store) idle_store ∙ ap is_broken whole))
  where
    none : (held : Option Target) → is_some held ≡ false → held ≡ None
    none None e = refl
    none (Some t) e = cc
