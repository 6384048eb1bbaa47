-- Items that are read one by one.
use Rattle.std.proofs.Common.{◌≡◌, ℕ, ◌+◌, ◌-◌, ◌<◌, List, get_or, length, drop, Some, sym, ◌∙◌, ap, subst, bytes_eq, cond, arith}
use Rattle.std.proofs.lemmas.List.{drop_more}
use Rattle.psu_disk.specs.declared.disk.Disk.{Ghosts}
use Rattle.psu_map.specs.Map.{Item, get, Sets}
use Rattle.psu_map.specs.Capacity.{IsMapOf}
use Rattle.psu_pages.specs.declared.pages.Pages.{Pages}
use Rattle.psu_pages.specs.Image.{Head, value_in}
use Rattle.psu_pages.specs.Outcome.{HasSameHeads}
use Rattle.psu_items.specs.Image.{listed}

-- the item of one more head, put before those of the heads after it
pub read_more : (image : List ℕ) (heads : List Head) (at : ℕ) (d head : Head) (old new : List Item) (key value : List ℕ) → at < length heads → head ≡ get_or heads at d → key ≡ head.key → value ≡ value_in image head
    → Sets old new key value → IsMapOf old (listed image (drop (at + 1) heads)) → IsMapOf new (listed image (drop at heads))
read_more image heads at d head old new key value lt is key_is value_is sets of k =
    let rest = get (listed image (drop (at + 1) heads)) k in
    let h = get_or heads at d in
    sets k
    ∙ ap (cond (bytes_eq key k) (Some value)) (of k)
    ∙ ap (λ (x : List ℕ). cond (bytes_eq x k) (Some value) rest) (key_is ∙ ap (λ (one : Head). one.key) is)
    ∙ ap (λ (x : List ℕ). cond (bytes_eq h.key k) (Some x) rest) (value_is ∙ ap (value_in image) is)
    ∙ sym (ap (λ (hs : List Head). get (listed image hs) k) (drop_more heads at d lt))

-- the root names the same heads
pub heads_still : {D A : Type 0} {G : Ghosts D} (old new : Pages D A G) → HasSameHeads old new → new.heads.items ≡ old.heads.items
heads_still old new same = ap (λ v. v.items) same.heads

-- one step from the last head to the first
pub read_step : (image now : List ℕ) (heads named : List Head) (at : ℕ) (old new : List Item) → 0 < at → now ≡ image → named ≡ heads
    → (IsMapOf old (listed now (drop (at - 1 + 1) named)) → IsMapOf new (listed now (drop (at - 1) named)))
    → IsMapOf old (listed image (drop at heads)) → IsMapOf new (listed image (drop (at - 1) heads))
read_step image now heads named at old new least is are step of =
    let back : at - 1 + 1 ≡ at = omega (arith, least) in
    let before : IsMapOf old (listed now (drop (at - 1 + 1) named)) = subst (λ (n : ℕ). IsMapOf old (listed now (drop n named))) (sym back) (subst (λ (x : List ℕ). IsMapOf old (listed x (drop at named))) (sym is) (subst (λ (hs : List Head). IsMapOf old (listed image (drop at hs))) (sym are) of)) in
    subst (λ (hs : List Head). IsMapOf new (listed image (drop (at - 1) hs))) are (subst (λ (x : List ℕ). IsMapOf new (listed x (drop (at - 1) named))) is (step before))
