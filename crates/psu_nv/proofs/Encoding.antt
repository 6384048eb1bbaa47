-- The map of contents, encoded part by part in the order of its keys.
use Rattle.std.proofs.Common.{◌≡◌, ℕ, zero, suc, ◌+◌, ◌<◌, ◌≤◌, List, [], ◌∷◌, ◌++◌, length, get_or, take, map, refl, sym, ◌∙◌, ap, subst, arith, append_assoc}
use Rattle.std.specs.List.{AllByRecursion}
use Rattle.std.proofs.Math.Seq.{take-suc}
use Rattle.std.proofs.lemmas.List.{length-take-le}
use Rattle.psu_map.specs.Map.{Item, item_of, Before, IsSorted}
use Rattle.psu_settings.specs.declared.output_settings.OutputSettings.{OutputSettings}
use Rattle.psu_nv.specs.Contents.{Contents, enables_items, register_items, registers_items, user_items, macros_items, file_item}
use Rattle.psu_nv.specs.Commands.{settings_at}
use Rattle.psu_nv.proofs.Parts.{LedBelow, AllBelow, Below, all-append, all-map, below_key, enables_led, registers_below, registers_before, user_below, macros_below, files_before, files_below}

raise : (m n : ℕ) (items : List Item) → m ≤ n → AllBelow m items → AllBelow n items
raise m n items le all = all-map (λ (i : Item). LedBelow m i.key) (λ (i : Item). LedBelow n i.key) items (λ i led. by_key i.key led) all
  where
    by_key : (key : List ℕ) → LedBelow m key → LedBelow n key
    by_key [] led = led
    by_key (k ∷ key) led = omega (arith, le, led)

registers-push : (q r : ℕ) (registers : List (List OutputSettings)) → r < length registers → registers_items q (take (suc r) registers) ≡ registers_items q (take r registers) ++ register_items (q + r) (settings_at registers r)
registers-push q r [] lt = absurd (omega (arith, lt))
registers-push q zero (s ∷ registers) lt = right_none (register_items q s) ∙ ap (λ (n : ℕ). register_items n s) (let same : q ≡ q + 0 = omega arith in same)
  where
    right_none : (l : List Item) → l ++ [] ≡ l
    right_none [] = refl
    right_none (i ∷ l) = ap (λ (m : List Item). i ∷ m) (right_none l)
registers-push q (suc r) (s ∷ registers) lt =
    ap (λ (l : List Item). register_items q s ++ l) (registers-push (q + 1) r registers (omega (arith, lt)) ∙ ap (λ (n : ℕ). registers_items (q + 1) (take r registers) ++ register_items n (settings_at registers r)) (let same : (q + 1) + r ≡ q + suc r = omega arith in same))
    ∙ sym (append_assoc (register_items q s) (registers_items (q + 1) (take r registers)) (register_items (q + suc r) (settings_at registers r)))

module _ (c : Contents) where
  pub before_register : (r k : ℕ) (items : List Item) → items ≡ enables_items c.enables ++ registers_items 0 (take r c.registers) → k ≡ r → r < length c.registers → Below (2 ∷ k ∷ []) items
  before_register r k items is same lt =
      subst (Below (2 ∷ k ∷ [])) (sym is) (all-append (λ (i : Item). Before i.key (2 ∷ k ∷ [])) (enables_items c.enables) (registers_items 0 (take r c.registers)) (below_key 2 (k ∷ []) (enables_items c.enables) (enables_led c.enables)) (registers_before 0 k (take r c.registers) (omega (arith, length-take-le r c.registers (omega (arith, lt)), same))))

  pub next_register : (r k next : ℕ) (items more : List Item) → items ≡ enables_items c.enables ++ registers_items 0 (take r c.registers) → k ≡ r → next ≡ r + 1 → r < length c.registers
      → more ≡ items ++ register_items k (settings_at c.registers k) → more ≡ enables_items c.enables ++ registers_items 0 (take next c.registers)
  next_register r k next items more is same next_is lt added =
      added ∙ ap (λ (n : ℕ). items ++ register_items n (settings_at c.registers n)) same ∙ ap (λ (l : List Item). l ++ register_items r (settings_at c.registers r)) is
      ∙ append_assoc (enables_items c.enables) (registers_items 0 (take r c.registers)) (register_items r (settings_at c.registers r))
      ∙ ap (λ (n : ℕ). enables_items c.enables ++ (registers_items 0 (take r c.registers) ++ register_items n (settings_at c.registers r))) (let zeroed : r ≡ 0 + r = omega arith in zeroed)
      ∙ ap (λ (l : List Item). enables_items c.enables ++ l) (sym (registers-push 0 r c.registers lt))
      ∙ ap (λ (n : ℕ). enables_items c.enables ++ registers_items 0 (take n c.registers)) (let after : suc r ≡ next = omega (arith, next_is) in after)

  led_registers : AllBelow 3 (enables_items c.enables ++ registers_items 0 c.registers)
  led_registers = all-append (λ (i : Item). LedBelow 3 i.key) (enables_items c.enables) (registers_items 0 c.registers) (raise 2 3 (enables_items c.enables) (omega arith) (enables_led c.enables)) (registers_below c.registers)

  pub before_user : (items : List Item) → items ≡ enables_items c.enables ++ registers_items 0 c.registers → Below (3 ∷ []) items
  before_user items is = subst (Below (3 ∷ [])) (sym is) (below_key 3 [] _ led_registers)

  led_user : AllBelow 4 ((enables_items c.enables ++ registers_items 0 c.registers) ++ user_items c.user)
  led_user = all-append (λ (i : Item). LedBelow 4 i.key) (enables_items c.enables ++ registers_items 0 c.registers) (user_items c.user) (raise 3 4 _ (omega arith) led_registers) (user_below c.user)

  pub before_macros : (items more : List Item) → items ≡ enables_items c.enables ++ registers_items 0 c.registers → more ≡ items ++ user_items c.user → Below (4 ∷ []) more
  before_macros items more is added = subst (Below (4 ∷ [])) (sym (added ∙ ap (λ (l : List Item). l ++ user_items c.user) is)) (below_key 4 [] _ led_user)

  -- all parts before the files
  abbrev pub prefix : List Item
  prefix = ((enables_items c.enables ++ registers_items 0 c.registers) ++ user_items c.user) ++ macros_items c.macros

  led_prefix : AllBelow 5 prefix
  led_prefix = all-append (λ (i : Item). LedBelow 5 i.key) ((enables_items c.enables ++ registers_items 0 c.registers) ++ user_items c.user) (macros_items c.macros) (raise 4 5 _ (omega arith) led_user) (macros_below c.macros)

pub taken_before : (files : List Item) (i : ℕ) (d : Item) → IsSorted files → i < length files → Below (let f = get_or files i d in f.key) (take i files)
taken_before [] i d sorted lt = absurd (omega (arith, lt))
taken_before (f ∷ files) zero d sorted lt = tt
taken_before (f ∷ files) (suc i) d sorted lt = (at_all files i sorted.0 (omega (arith, lt)), taken_before files i d sorted.1 (omega (arith, lt)))
  where
    at_all : (l : List Item) (k : ℕ) → AllByRecursion (λ (j : Item). Before f.key j.key) l → k < length l → Before f.key (let g = get_or l k d in g.key)
    at_all [] k all less = absurd (omega (arith, less))
    at_all (j ∷ l) zero all less = all.0
    at_all (j ∷ l) (suc k) all less = at_all l k all.1 (omega (arith, less))

module _ (c : Contents) (files items : List Item) (n : ℕ) (d f : Item) (of : files ≡ c.files) (is : items ≡ prefix c ++ map file_item (take n files)) (lt : n < length files) (here : f ≡ get_or files n d) (key : List ℕ) (key_is : key ≡ 5 ∷ f.key) where
  pub before_file : IsSorted files → Below key items
  before_file sorted =
      let name : List ℕ = (let g = get_or files n d in g.key) in
      let led : key ≡ 5 ∷ name = key_is ∙ ap (λ (g : Item). 5 ∷ g.key) here in
      subst (λ (k : List ℕ). Below k items) (sym led) (subst (Below (5 ∷ name)) (sym is) (all-append (λ (i : Item). Before i.key (5 ∷ name)) (prefix c) (map file_item (take n files)) (below_key 5 name (prefix c) (led_prefix c)) (files_before (take n files) name (taken_before files n d sorted lt))))

  pub next_file : (value : List ℕ) (next : ℕ) (more : List Item) → value ≡ f.value → next ≡ n + 1 → more ≡ items ++ item_of key value ∷ [] → more ≡ prefix c ++ map file_item (take next files)
  next_file value next more value_is next_is added =
      let g = get_or files n d in
      let new : item_of key value ≡ file_item g = ap (λ (k : List ℕ). item_of k value) key_is ∙ ap (λ (v : List ℕ). item_of (5 ∷ f.key) v) value_is ∙ ap file_item here in
      added ∙ ap (λ (i : Item). items ++ i ∷ []) new ∙ ap (λ (l : List Item). l ++ file_item g ∷ []) is
      ∙ append_assoc (prefix c) (map file_item (take n files)) (file_item g ∷ [])
      ∙ ap (λ (l : List Item). prefix c ++ l) (sym (map-push (take n files) g) ∙ ap (map file_item) (sym (take-suc files n d lt)))
      ∙ ap (λ (k : ℕ). prefix c ++ map file_item (take k files)) (let after : suc n ≡ next = omega (arith, next_is) in after)
    where
      map-push : (l : List Item) (g : Item) → map file_item (l ++ g ∷ []) ≡ map file_item l ++ file_item g ∷ []
      map-push [] g = refl
      map-push (i ∷ l) g = ap (λ (m : List Item). file_item i ∷ m) (map-push l g)

-- all parts before the last
pub before_recall : (c : Contents) (before items : List Item) → before ≡ prefix c → items ≡ before ++ map file_item c.files → Below (6 ∷ []) items
before_recall c before items is added =
    subst (Below (6 ∷ [])) (sym (added ∙ ap (λ (l : List Item). l ++ map file_item c.files) is))
    (below_key 6 [] _ (all-append (λ (i : Item). LedBelow 6 i.key) (prefix c) (map file_item c.files) (raise 5 6 (prefix c) (omega arith) (led_prefix c)) (files_below c.files)))
