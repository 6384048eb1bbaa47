-- What opening an image finds.
use Rattle.std.proofs.Common.{◌≡◌, ℕ, ◌+◌, ◌≤◌, List, length, refl, sym, ◌∙◌, ap, subst, arith}
use Rattle.std.specs.List.{AllByRecursion}
use Rattle.psu_disk.specs.Disk.{Range}
use Rattle.psu_pages.specs.declared.root.Root.{Root}
use Rattle.psu_pages.specs.declared.choose.Chosen.{Chosen}
use Rattle.psu_pages.specs.Image.{gate_at, IsCurrent, version_in, names_in, Head, heads_in, IsHead, IsKnown, AreShort, IsInPool, AreApart, taken, keys, words}
use Rattle.psu_pages.specs.Shown.{items_in, Shows, Encodes}
use Rattle.psu_pages.specs.Free.{IsRoster}
use Rattle.psu_pages.specs.Finding.{IsChosen, HasGates, HasGoodWords, HasReadableRoot, HasBadRoot, CanStand, page_of}
use Rattle.psu_pages.proofs.Encoding.{current_root_is}
use Rattle.psu_pages.proofs.Choosing.{picked_current, picked_number, picked_shut, picked_lower, some_root, on_page}

-- heads that one image may have together, few enough, within the limit, and of distinct keys
pub roster_of : (limit : ℕ) (heads : List Head) → CanStand limit heads → length heads ≤ 240 → length (taken heads) ≤ limit → AreApart (keys heads) → IsRoster limit heads
roster_of limit heads can count cost distinct = record { each = can.each; pool = can.pool; apart = can.apart; count = count; cost = cost; distinct = distinct }

-- a root was chosen on an image
pub record HasChosen (image : List ℕ) (chosen : Chosen) : Type 0 where
  pub size : 1024 ≤ length image
  pub is : IsChosen image chosen

module _ {image : List ℕ} {chosen : Chosen} (has : HasChosen image chosen) where
  abbrev root : Root
  root = chosen.root

  current : IsCurrent root image
  current = picked_current chosen.root chosen.number chosen.both image has.is.picked

  pub gates : HasGates chosen.root chosen.number chosen.both image
  gates = record { shut = picked_shut chosen.root chosen.number chosen.both image has.is.picked; lower = picked_lower chosen.root chosen.number chosen.both image has.is.picked }

  pub readable : HasReadableRoot image
  readable =
      let same = sym (current_root_is root image current) in
      record {
        current = subst (λ (r : Root). IsCurrent r image) same current;
        words = subst (λ (r : Root). HasGoodWords r image) same has.is.words;
      }

  -- refused because its heads are invalid
  pub bad_root : (Shows chosen.root image chosen.limit → ⊥) → HasBadRoot image
  bad_root none = record {
    some_root = some_root image root has.size current.open_gate;
    same_version = λ known. known.version (subst (λ (r : Root). IsKnown (version_in r image)) (sym (current_root_is root image current)) has.is.words.version);
    represents_none = λ limit items st.
        let shows : Shows root image limit = subst (λ (r : Root). Shows r image limit) (current_root_is root image current) st.shows in
        none (subst (Shows root image) (sym shows.limit_is ∙ has.is.limit) shows);
  }

  pub named : (page names : List ℕ) → page ≡ page_of chosen.root image → names ≡ words chosen.count (Range 18 480 page) → names ≡ names_in chosen.root image
  named page names page_is names_are =
      names_are ∙ ap (words chosen.count) (on_page root image page has.size page_is 18 480 (omega arith)) ∙ ap (λ (n : ℕ). words n (Range (gate_at root + 18) 480 image)) (sym has.is.count)

  pub encodes : (heads : List Head) → heads_in chosen.root image ≡ heads → IsRoster chosen.limit heads → AreShort chosen.version heads → Encodes chosen.root chosen.version chosen.limit chosen.number heads (items_in chosen.root image) image
  encodes heads are roster are_short = record {
    current = current;
    has_contents = record {
      version_is = has.is.version;
      number_is = picked_number chosen.root chosen.number chosen.both image has.is.picked;
      shows = record {
        marked = has.is.words.marked;
        version = has.is.words.version;
        short = subst (λ (v : ℕ). AreShort v (heads_in chosen.root image)) (sym has.is.version) (subst (AreShort chosen.version) (sym are) are_short);
        limit_is = has.is.limit;
        limit_least = omega (arith, has.is.words.limit_least, has.is.limit);
        limit_most = omega (arith, has.is.words.limit_most, has.is.limit);
        room = omega (arith, has.is.words.room, has.is.limit);
        count = has.is.words.count;
        heads = subst (AllByRecursion IsHead) (sym are) roster.each;
        pool = subst (λ (hs : List Head). AllByRecursion (IsInPool chosen.limit) (taken hs)) (sym are) roster.pool;
        apart = subst (λ (hs : List Head). AreApart (taken hs)) (sym are) roster.apart;
        cost = subst (λ (hs : List Head). length (taken hs) ≤ chosen.limit) (sym are) roster.cost;
        distinct = subst (λ (hs : List Head). AreApart (keys hs)) (sym are) roster.distinct;
      };
      heads_are = are;
      items_are = refl;
    };
  }

-- the heads of a root that shows its items can be on an image together
pub stand : (root : Root) (image : List ℕ) (limit : ℕ) → Shows root image limit → CanStand limit (heads_in root image)
stand root image limit shows = record { each = shows.heads; pool = shows.pool; apart = shows.apart }
