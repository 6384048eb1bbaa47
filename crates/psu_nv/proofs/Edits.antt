-- The edits of parts, among them all that differ, turn the old map into the new one.
use Rattle.std.proofs.Common.{◌≡◌, ℕ, inl, inr, ◌⊎◌, Bool, true, false, cond, List, [], ◌∷◌, map, Option, refl, sym, ◌∙◌, ap, bytes_eq}
use Rattle.psu_map.specs.Map.{get}
use Rattle.psu_map.specs.Batch.{changed, assigned}
use Rattle.psu_map.proofs.Keys.{same_key, same_true}
use Rattle.psu_map.proofs.Maps.{same_map, get-changed, sorted-changed}
use Rattle.psu_nv.specs.Contents.{Contents, IsContents, items_of}
use Rattle.psu_nv.specs.Parts.{Part, key_of, part_items, value_in, edit_of, IsAmong, DifferIn}
use Rattle.psu_nv.specs.Decoding.{is_key}
use Rattle.psu_nv.proofs.Parts.{items_sorted}
use Rattle.psu_nv.proofs.Gets.{part_found}
use Rattle.psu_nv.proofs.Kept.{PartAt, part_at, get_bad, contents_keys}

module _ (new : Contents) (key : List ℕ) where
  -- if a key has what the new contents have there, it has that after one more edit
  step : (part : Part) (had : Option (List ℕ)) → had ≡ get (items_of new) key → cond (bytes_eq (key_of part) key) (value_in (part_items new part)) had ≡ get (items_of new) key
  step part had is = by_test (bytes_eq (key_of part) key) refl
    where
      by_test : (b : Bool) → bytes_eq (key_of part) key ≡ b → cond b (value_in (part_items new part)) had ≡ get (items_of new) key
      by_test true e = sym (part_found new part) ∙ ap (get (items_of new)) (same_key (key_of part) key e)
      by_test false e = is

  keeps : (parts : List Part) (had : Option (List ℕ)) → had ≡ get (items_of new) key → assigned (map (edit_of new) parts) key had ≡ get (items_of new) key
  keeps [] had is = is
  keeps (p ∷ parts) had is = keeps parts (cond (bytes_eq (key_of p) key) (value_in (part_items new p)) had) (step p had is)

  gives : (parts : List Part) (part : Part) (had : Option (List ℕ)) → key ≡ key_of part → IsAmong part parts → assigned (map (edit_of new) parts) key had ≡ get (items_of new) key
  gives [] part had here among = absurd among
  gives (p ∷ parts) part had here (inl same) =
      keeps parts (cond (bytes_eq (key_of p) key) (value_in (part_items new p)) had)
      (ap (λ (b : Bool). cond b (value_in (part_items new p)) had) (same_true (key_of p) key (ap key_of (sym same) ∙ sym here)) ∙ sym (part_found new p) ∙ ap (get (items_of new)) (ap key_of (sym same) ∙ sym here))
  gives (p ∷ parts) part had here (inr among) = gives parts part (cond (bytes_eq (key_of p) key) (value_in (part_items new p)) had) here among

pub edited_map : (old new : Contents) (parts : List Part) → IsContents old → IsContents new → DifferIn parts old new → changed (items_of old) (map (edit_of new) parts) ≡ items_of new
edited_map old new parts is_old is_new differ =
    same_map (changed (items_of old) (map (edit_of new) parts)) (items_of new) (sorted-changed (items_of old) (map (edit_of new) parts) (items_sorted old is_old.sorted)) (items_sorted new is_new.sorted)
    (λ key. get-changed (items_of old) (map (edit_of new) parts) key ∙ at key (is_key key) refl)
  where
    by_part : (key : List ℕ) (p : PartAt key) → IsAmong p.part parts ⊎ (value_in (part_items old p.part) ≡ value_in (part_items new p.part)) → assigned (map (edit_of new) parts) key (get (items_of old) key) ≡ get (items_of new) key
    by_part key p (inl among) = gives new key parts p.part (get (items_of old) key) p.key_is among
    by_part key p (inr same) =
        keeps new key parts (get (items_of old) key)
        (ap (get (items_of old)) p.key_is ∙ part_found old p.part ∙ same ∙ sym (part_found new p.part) ∙ ap (get (items_of new)) (sym p.key_is))

    at : (key : List ℕ) → (t : Bool) → is_key key ≡ t → assigned (map (edit_of new) parts) key (get (items_of old) key) ≡ get (items_of new) key
    at key true e = let p = part_at key e in by_part key p (differ p.part)
    at key false e = keeps new key parts (get (items_of old) key) (get_bad (items_of old) key (contents_keys old is_old) e ∙ sym (get_bad (items_of new) key (contents_keys new is_new) e))
