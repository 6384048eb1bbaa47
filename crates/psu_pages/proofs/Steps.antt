-- One more page is written.
use Rattle.std.proofs.Common.{◌≡◌, ⊎_elim, inl, inr, ℕ, zero, suc, ◌+◌, ◌*◌, ◌<◌, ◌≤◌, ◌⊎◌, List, [], ◌∷◌, ◌++◌, length, get_or, take, drop, refl, sym, ◌∙◌, ap, subst, arith}
use Rattle.std.specs.List.{AllByRecursion}
use Rattle.std.proofs.lemmas.Bool.{cases_lt}
use Rattle.std.proofs.lemmas.List.{take_more, length-take-le, drop-drop}
use Rattle.psu_disk.specs.Disk.{Range, Holds, SameBut, Follows, LeavesOnly, Elapses}
use Rattle.psu_disk.specs.Moments.{started, continues, and_then, weaken}
use Rattle.psu_disk.specs.Ranges.{range_same, range_written}
use Rattle.psu_pages.specs.Image.{page_in, IsNone, AreApart}
use Rattle.psu_pages.specs.Writing.{Draft, IsOutside, Misses, Reaches, AreWritten}
use Rattle.psu_pages.specs.Spelling.{draft_of, value_drafts}
use Rattle.psu_pages.proofs.Lists.{all_join, all_at, all_take, none_before}

pub misses_refl : (pages x : List ℕ) → Misses pages x x
misses_refl pages x = record { size = refl; same = λ k out. refl }

pub misses_trans : (pages x y z : List ℕ) → Misses pages x y → Misses pages y z → Misses pages x z
misses_trans pages x y z first second = record { size = second.size ∙ first.size; same = λ k out. second.same k out ∙ first.same k out }

-- a byte outside of all is outside of one
pub misses_one : (pages : List ℕ) (i d : ℕ) (x y : List ℕ) → i < length pages → Misses (get_or pages i d ∷ []) x y → Misses pages x y
misses_one pages i d x y lt misses = record {
  size = misses.size;
  same = λ k out. misses.same k (all_at (λ (page : ℕ). (k < 512 * page) ⊎ (512 * page + 512 ≤ k)) pages i d lt out, tt);
}

pub misses_first : (page : ℕ) (pages x y : List ℕ) → Misses (page ∷ []) x y → Misses (page ∷ pages) x y
misses_first page pages x y misses = record { size = misses.size; same = λ k out. misses.same k (out.0, tt) }

pub misses_rest : (page : ℕ) (pages x y : List ℕ) → Misses pages x y → Misses (page ∷ pages) x y
misses_rest page pages x y misses = record { size = misses.size; same = λ k out. misses.same k out.1 }

-- a byte of a page lies in none of the others
pub page_outside : (pages : List ℕ) (page k : ℕ) → IsNone pages page → 512 * page ≤ k → k < 512 * page + 512 → IsOutside pages k
page_outside [] page k none ge lt = tt
page_outside (p ∷ pages) page k none ge lt = (by_order (cases_lt p page), page_outside pages page k none.1 ge lt)
  where
    by_order : (p < page) ⊎ (page ≤ p) → (k < 512 * p) ⊎ (512 * p + 512 ≤ k)
    by_order (inl below) = inr (omega (arith, below, ge))
    by_order (inr above) = inl (omega (arith, above, none.0, lt))

-- a page that isn't written stays
pub page_stays : (pages : List ℕ) (page : ℕ) (x y : List ℕ) → 512 * page + 512 ≤ length x → IsNone pages page → Misses pages x y → page_in page y ≡ page_in page x
page_stays pages page x y fits none misses = range_same (512 * page) 512 x y misses.size fits (λ k ge lt. misses.same k (page_outside pages page k none ge lt))

-- one page is written by one call
module _ (page at n : ℕ) (is : at ≡ 512 * page) (long : n ≡ 512) where
  pub one : (x y : List ℕ) → SameBut at n x y → Misses (page ∷ []) x y
  one x y but = record {
    size = but.size;
    same = λ k out. ⊎_elim (λ lt. but.below k (omega (arith, is, lt))) (λ ge. but.above k (omega (arith, is, long, ge))) out.0;
  }

  pub follows_one : (old new : List ℕ → Type 0) → Follows (SameBut at n) old new → Follows (Misses (page ∷ [])) old new
  follows_one old new step x l = let from = step x l in (from.0, from.1, one from.0 x from.2)

  pub run_one : {D : Type 0} {moment : D → ℕ} {left_since : D → ℕ → List ℕ → Type 0} {old new : D} {before after : List ℕ → Type 0} → ((x : List ℕ) → left_since old (moment old) x → before x)
      → Follows (SameBut at n) before after → Elapses (moment old) (moment new) (left_since old) (left_since new) after → LeavesOnly moment left_since old new (Reaches (Misses (page ∷ [])) before)
  run_one {D} {moment} {left_since} {old} {new} {before} {after} only_now step time =
      continues moment left_since old old new (Reaches (Misses (page ∷ [])) before) after
      (started moment left_since old (Reaches (Misses (page ∷ [])) before) (λ x l. (x, only_now x l, misses_refl (page ∷ []) x))) time (follows_one before after step)

  pub written_one : (bytes x y : List ℕ) → at + length bytes ≤ length x → length bytes ≡ 512 → Holds at bytes x y → page_in page y ≡ bytes
  written_one bytes x y fits whole holds = ap (λ (a : ℕ). Range a 512 y) (sym is) ∙ ap (λ (m : ℕ). Range at m y) (sym whole) ∙ range_written at bytes x y fits holds

-- what one run may change, and then another that changes no more
module _ (pages : List ℕ) {others : List ℕ} (weaker : (x y : List ℕ) → Misses others x y → Misses pages x y) {old : List ℕ → Type 0} where
  pub follows_weaker : {new : List ℕ → Type 0} → Follows (Misses others) old new → Follows (Misses pages) old new
  follows_weaker step x l = let from = step x l in (from.0, from.1, weaker from.0 x from.2)

  pub follows_on : {start : List ℕ → Type 0} {new : List ℕ → Type 0} → Follows (Misses pages) start old → Follows (Misses others) old new → Follows (Misses pages) start new
  follows_on first second x l =
      let from = second x l in
      let begin = first from.0 from.1 in
      (begin.0, begin.1, misses_trans pages begin.0 from.0 x begin.2 (weaker from.0 x from.2))

  module _ {D : Type 0} {moment : D → ℕ} {left_since : D → ℕ → List ℕ → Type 0} {from to : D} (run : LeavesOnly moment left_since from to (Reaches (Misses others) old)) where
    pub run_weaker : LeavesOnly moment left_since from to (Reaches (Misses pages) old)
    run_weaker = weaken moment left_since from to (Reaches (Misses others) old) (Reaches (Misses pages) old) run (λ x reach. (reach.0, reach.1, weaker reach.0 x reach.2))

    pub run_on : {start : D} {first : List ℕ → Type 0} → LeavesOnly moment left_since start from (Reaches (Misses pages) first) → Follows (Misses pages) first old → LeavesOnly moment left_since start to (Reaches (Misses pages) first)
    run_on {start} {first} before so_far = and_then moment left_since start from to (Reaches (Misses pages) first) (Reaches (Misses others) old) before run
        (λ x reach. let begin = so_far reach.0 reach.1 in (begin.0, begin.1, misses_trans pages begin.0 reach.0 x begin.2 (weaker reach.0 x reach.2)))

-- pages that are written stay while another one is
pub drafts_stay : (pages value : List ℕ) (page : ℕ) (x y : List ℕ) → AllByRecursion (λ (p : ℕ). 512 * p + 512 ≤ length x) pages → IsNone pages page → Misses (page ∷ []) x y → AreWritten (value_drafts pages value) x → AreWritten (value_drafts pages value) y
drafts_stay [] value page x y fits none misses written = tt
drafts_stay (p ∷ pages) value page x y fits none misses written =
    (page_stays (page ∷ []) p x y fits.0 (λ same. none.0 (sym same), tt) misses ∙ written.0, drafts_stay pages (drop 512 value) page x y fits.1 none.1 misses written.1)

-- one more page of a value
drafts_end : (pages value : List ℕ) (page n : ℕ) → n ≡ length pages → value_drafts (pages ++ page ∷ []) value ≡ value_drafts pages value ++ draft_of page (take 512 (drop (512 * n) value)) ∷ []
drafts_end [] value page n is = ap (λ (v : List ℕ). draft_of page (take 512 v) ∷ []) (sym (ap (λ (m : ℕ). drop m value) (let none : 512 * n ≡ 0 = omega (arith, is) in none)))
drafts_end (p ∷ pages) value page zero is = absurd (omega (arith, is))
drafts_end (p ∷ pages) value page (suc n) is =
    ap (λ (l : List Draft). draft_of p (take 512 value) ∷ l)
    (drafts_end pages (drop 512 value) page n (omega (arith, is))
    ∙ ap (λ (v : List ℕ). value_drafts pages (drop 512 value) ++ draft_of page (take 512 v) ∷ []) (sym (ap (λ (m : ℕ). drop m value) (let same : 512 * suc n ≡ 512 + 512 * n = omega arith in same) ∙ sym (drop-drop (512 * n) 512 value))))

pub written_more : (pages value rest : List ℕ) (i d : ℕ) (x y : List ℕ) → i < length pages → AreApart pages → AllByRecursion (λ (p : ℕ). 512 * p + 512 ≤ length x) pages → rest ≡ drop (512 * i) value
    → Misses (get_or pages i d ∷ []) x y → page_in (get_or pages i d) y ≡ (let draft = draft_of (get_or pages i d) (take 512 rest) in draft.bytes)
    → AreWritten (value_drafts (take i pages) value) x → AreWritten (value_drafts (take (i + 1) pages) value) y
written_more pages value rest i d x y lt apart fits is misses here so_far =
    let page = get_or pages i d in
    let W : Draft → Type 0 = λ (draft : Draft). page_in draft.page y ≡ draft.bytes in
    let few : i ≡ length (take i pages) = sym (length-take-le i pages (omega (arith, lt))) in
    let all : value_drafts (take (i + 1) pages) value ≡ value_drafts (take i pages) value ++ draft_of page (take 512 rest) ∷ [] =
    ap (λ (ps : List ℕ). value_drafts ps value) (take_more pages i d lt) ∙ drafts_end (take i pages) value page i few ∙ ap (λ (v : List ℕ). value_drafts (take i pages) value ++ draft_of page (take 512 v) ∷ []) (sym is) in
    subst (AllByRecursion W) (sym all)
    (all_join W (value_drafts (take i pages) value) (draft_of page (take 512 rest) ∷ [])
    (drafts_stay (take i pages) value page x y (all_take (λ (p : ℕ). 512 * p + 512 ≤ length x) i pages fits) (none_before pages i d lt apart) misses so_far)
    (here, tt))

pub rest_more : (i : ℕ) (value rest after : List ℕ) → rest ≡ drop (512 * i) value → after ≡ drop 512 rest → after ≡ drop (512 * (i + 1)) value
rest_more i value rest after is next = next ∙ ap (drop 512) is ∙ drop-drop 512 (512 * i) value ∙ ap (λ (m : ℕ). drop m value) (let same : 512 * i + 512 ≡ 512 * (i + 1) = omega arith in same)
