-- Valid contents stay valid over each change of a part.
use Rattle.std.proofs.Common.{◌≡◌, ℕ, zero, suc, ◌<◌, ◌≤◌, Bool, true, false, cond, List, [], ◌∷◌, ◌++◌, length, get_or, take, Option, Some, None, refl, sym, ◌∙◌, ap, subst, arith, length-append}
use Rattle.std.specs.Prelude.{is_some, bit_and}
use Rattle.std.specs.Option.{ForSome}
use Rattle.std.specs.List.{AllByRecursion}
use Rattle.psu_map.specs.Map.{Item, item_of, put, without, IsSorted}
use Rattle.psu_map.proofs.Maps.{sorted-put, sorted-without}
use Rattle.psu_status.specs.declared.groups.Enables.{Enables}
use Rattle.psu_nv.proofs.Items.{all_put, all_without}
use Rattle.std.specs.Cmp.Lexicographic.{nat_list_eq_equiv}
use Rattle.psu_lex.specs.Names.{is_label}
use Rattle.psu_nv.specs.Labels.{lowercase, same_label}
use Rattle.psu_nv.specs.Contents.{Macro, Contents, contents_of, body_at, has_label, HasDistinct, IsMacro, IsFile, IsContents}
use Rattle.psu_nv.specs.Commands.{without_label, macro_of}

with_files : (c : Contents) (files : List Item) → IsContents c → AllByRecursion IsFile files → IsSorted files → IsContents (contents_of c.registers c.user c.macros c.enables files c.recall)
with_files c files is all sorted = record { count = is.count; settings = is.settings; user = is.user; macros = is.macros; distinct = is.distinct; most_macros = is.most_macros; mss = is.mss; files = all; sorted = sorted }

pub kept_put : (c : Contents) (files : List Item) (key name value : List ℕ) → IsContents c → key ≡ name → files ≡ put c.files key value → IsFile (item_of name value) → IsContents (contents_of c.registers c.user c.macros c.enables files c.recall)
kept_put c files key name value is same is_put file =
    subst (λ (l : List Item). IsContents (contents_of c.registers c.user c.macros c.enables l c.recall)) (sym is_put)
    (with_files c (put c.files key value) is (all_put IsFile c.files key value is.files (subst (λ (k : List ℕ). IsFile (item_of k value)) (sym same) file)) (sorted-put c.files key value is.sorted))

pub kept_without : (c : Contents) (files : List Item) (name : List ℕ) → IsContents c → files ≡ without c.files name → IsContents (contents_of c.registers c.user c.macros c.enables files c.recall)
kept_without c files name is is_without =
    subst (λ (l : List Item). IsContents (contents_of c.registers c.user c.macros c.enables l c.recall)) (sym is_without)
    (with_files c (without c.files name) is (all_without IsFile c.files name is.files) (sorted-without c.files name is.sorted))

-- # Macros

with_macros : (c : Contents) (macros : List Macro) → IsContents c → AllByRecursion IsMacro macros → HasDistinct macros → length macros ≤ 32 → IsContents (contents_of c.registers c.user macros c.enables c.files c.recall)
with_macros c macros is all distinct most = record { count = is.count; settings = is.settings; user = is.user; macros = all; distinct = distinct; most_macros = most; mss = is.mss; files = is.files; sorted = is.sorted }

pub label_sym : (a b : List ℕ) → same_label a b ≡ same_label b a
label_sym a b = nat_list_eq_equiv.symm (lowercase a) (lowercase b)

label-push : (macros : List Macro) (new : Macro) (label : List ℕ) → has_label macros label ≡ false → same_label new.label label ≡ false → has_label (macros ++ new ∷ []) label ≡ false
label-push [] new label none other = ap (λ (b : Bool). is_some (cond b (Some new.body) None)) other
label-push (m ∷ macros) new label none other = by_test (same_label m.label label) none (label-push macros new label)
  where
    by_test : (b : Bool) → is_some (cond b (Some m.body) (body_at macros label)) ≡ false → (has_label macros label ≡ false → same_label new.label label ≡ false → has_label (macros ++ new ∷ []) label ≡ false)
        → is_some (cond b (Some m.body) (body_at (macros ++ new ∷ []) label)) ≡ false
    by_test true none rest = none
    by_test false none rest = rest none other

pub not_first : (m : Macro) (macros : List Macro) (label : List ℕ) → has_label (m ∷ macros) label ≡ false → (same_label m.label label ≡ false) × (has_label macros label ≡ false)
not_first m macros label none = by_test (same_label m.label label) none
  where
    by_test : (b : Bool) → is_some (cond b (Some m.body) (body_at macros label)) ≡ false → (b ≡ false) × (has_label macros label ≡ false)
    by_test true none = absurd cc
    by_test false none = (refl, none)

other_at : (macros : List Macro) (i : ℕ) (d : Macro) (label : List ℕ) → has_label macros label ≡ false → i < length macros → (let m = get_or macros i d in same_label m.label label ≡ false)
other_at [] i d label none lt = absurd (omega (arith, lt))
other_at (m ∷ macros) zero d label none lt = (not_first m macros label none).0
other_at (m ∷ macros) (suc i) d label none lt = other_at macros i d label (not_first m macros label none).1 (omega (arith, lt))

-- no macro has the label of one before it
pub free_at : (macros : List Macro) (i : ℕ) (d : Macro) → HasDistinct macros → i < length macros → (let m = get_or macros i d in has_label (take i macros) m.label ≡ false)
free_at [] i d distinct lt = absurd (omega (arith, lt))
free_at (m ∷ macros) zero d distinct lt = refl
free_at (m ∷ macros) (suc i) d distinct lt =
    let label : List ℕ = (let q = get_or macros i d in q.label) in
    ap (λ (b : Bool). is_some (cond b (Some m.body) (body_at (take i macros) label))) (label_sym m.label label ∙ other_at macros i d m.label distinct.0 (omega (arith, lt))) ∙ free_at macros i d distinct.1 (omega (arith, lt))

pub distinct-push : (macros : List Macro) (new : Macro) → HasDistinct macros → has_label macros new.label ≡ false → HasDistinct (macros ++ new ∷ [])
distinct-push [] new distinct none = (refl, tt)
distinct-push (m ∷ macros) new distinct none =
    let parts = not_first m macros new.label none in
    (label-push macros new m.label distinct.0 (label_sym new.label m.label ∙ parts.0), distinct-push macros new distinct.1 parts.1)

pub all-push : (P : Macro → Type 0) (macros : List Macro) (new : Macro) → AllByRecursion P macros → P new → AllByRecursion P (macros ++ new ∷ [])
all-push P [] new all here = (here, tt)
all-push P (m ∷ macros) new all here = (all.0, all-push P macros new all.1 here)

pub kept_push : (c : Contents) (macros : List Macro) (label body : List ℕ) → IsContents c → macros ≡ c.macros ++ macro_of label body ∷ [] → is_label label ≡ true → length body ≤ 1024 → has_label c.macros label ≡ false → length c.macros < 32
    → IsContents (contents_of c.registers c.user macros c.enables c.files c.recall)
kept_push c macros label body is is_push good short none room =
    subst (λ (l : List Macro). IsContents (contents_of c.registers c.user l c.enables c.files c.recall)) (sym is_push)
    (with_macros c (c.macros ++ macro_of label body ∷ []) is (all-push IsMacro c.macros (macro_of label body) is.macros (record { label = good; body = short })) (distinct-push c.macros (macro_of label body) is.distinct none) (omega (arith, room, length-append c.macros (macro_of label body ∷ []))))

label-without : (macros : List Macro) (label other : List ℕ) → has_label macros other ≡ false → has_label (without_label macros label) other ≡ false
label-without [] label other none = refl
label-without (m ∷ macros) label other none = by_test (same_label m.label label) (label-without macros label other)
  where
    parts : (same_label m.label other ≡ false) × (has_label macros other ≡ false)
    parts = not_first m macros other none

    by_test : (b : Bool) → (has_label macros other ≡ false → has_label (without_label macros label) other ≡ false) → has_label (cond b macros (m ∷ without_label macros label)) other ≡ false
    by_test true rest = parts.1
    by_test false rest = ap (λ (b : Bool). is_some (cond b (Some m.body) (body_at (without_label macros label) other))) parts.0 ∙ rest parts.1

distinct-without : (macros : List Macro) (label : List ℕ) → HasDistinct macros → HasDistinct (without_label macros label)
distinct-without [] label distinct = tt
distinct-without (m ∷ macros) label distinct = by_test (same_label m.label label) (distinct-without macros label distinct.1)
  where
    by_test : (b : Bool) → HasDistinct (without_label macros label) → HasDistinct (cond b macros (m ∷ without_label macros label))
    by_test true rest = distinct.1
    by_test false rest = (label-without macros label m.label distinct.0, rest)

all-without_label : (macros : List Macro) (label : List ℕ) → AllByRecursion IsMacro macros → AllByRecursion IsMacro (without_label macros label)
all-without_label [] label all = tt
all-without_label (m ∷ macros) label all = by_test (same_label m.label label) (all-without_label macros label all.1)
  where
    by_test : (b : Bool) → AllByRecursion IsMacro (without_label macros label) → AllByRecursion IsMacro (cond b macros (m ∷ without_label macros label))
    by_test true rest = all.1
    by_test false rest = (all.0, rest)

length-without_label : (macros : List Macro) (label : List ℕ) → length (without_label macros label) ≤ length macros
length-without_label [] label = omega arith
length-without_label (m ∷ macros) label = by_test (same_label m.label label) (length-without_label macros label)
  where
    by_test : (b : Bool) → length (without_label macros label) ≤ length macros → length (cond b macros (m ∷ without_label macros label)) ≤ length (m ∷ macros)
    by_test true rest = omega arith
    by_test false rest = omega (arith, rest)

pub kept_without_label : (c : Contents) (macros : List Macro) (label : List ℕ) → IsContents c → macros ≡ without_label c.macros label → IsContents (contents_of c.registers c.user macros c.enables c.files c.recall)
kept_without_label c macros label is is_without =
    subst (λ (l : List Macro). IsContents (contents_of c.registers c.user l c.enables c.files c.recall)) (sym is_without)
    (with_macros c (without_label c.macros label) is (all-without_label c.macros label is.macros) (distinct-without c.macros label is.distinct) (omega (arith, length-without_label c.macros label, is.most_macros)))

-- a new ESE
pub kept_event : (c : Contents) (old : Enables) (bits : ℕ) → IsContents c → c.enables ≡ Some old → IsContents (contents_of c.registers c.user c.macros (Some (record old { ese = bits })) c.files c.recall)
kept_event c old bits is here = record { count = is.count; settings = is.settings; user = is.user; macros = is.macros; distinct = is.distinct; most_macros = is.most_macros; mss = mss (subst (λ (o : Option Enables). ForSome o (λ e. bit_and e.sre 64 ≡ 0)) here is.mss); files = is.files; sorted = is.sorted }
  where
    mss : ForSome (Some old) (λ (e : Enables). bit_and e.sre 64 ≡ 0) → ForSome (Some (record old { ese = bits })) (λ (e : Enables). bit_and e.sre 64 ≡ 0)
    mss has = λ e there. let first : e.sre ≡ old.sre = cc in ap (λ (n : ℕ). bit_and n 64) first ∙ has old refl
