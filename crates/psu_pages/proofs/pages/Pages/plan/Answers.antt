use Rattle.std.proofs.Common.{◌≡◌, ◌+◌, ◌/◌, ℕ, List, [], ◌∷◌, true, false, length, take, length-take-le, ◌∙◌, ap, arith, rules}
use Rattle.std.specs.List.{AllByRecursion}
use Rattle.psu_pages.specs.Image.{Head, taken, pages_of}
use Rattle.psu_pages.specs.Free.{is_free, free_pages, AreClaimed}
use Rattle.psu_pages.proofs.Lists.{clear_by}
use Rattle.psu_pages.proofs.Planning.{were_free, are_apart, in_pool, pool_within, pages_are, kept_claimed}
use Rattle.psu_pages.proofs.pages.Pages.plan.Given.{Over}
use Rattle.psu_pages.proofs.pages.Pages.plan.Goals.{After-keep_head}
use Rattle.psu_pages.proofs.pages.Pages.plan.Goals as goal

-- the pages of the head are the first free ones
named : (g : Over) (c : After-keep_head g) → pages_of c.in_ok-head.head ≡ take (1 + (c.args.size + 511) / 512) (let p = c.args.self.now in free_pages p.free)
named g c = pages_are (let p = c.args.self.now in p.free) (1 + (c.args.size + 511) / 512) c.remove-at.result c.args.size c.in_ok-key.key.items c.in_ok-pages.pages.items c.remove-at.new.self.items c.in_ok-head.head (omega arith)
    c.in_ok-pages.ensures.enough c.in_ok-pages.ensures.pages c.remove-at.ensures.value c.remove-at.ensures.items c.in_ok-head.ensures

free : (g : Over) (c : After-keep_head g) → AllByRecursion (λ (q : ℕ). let p = c.args.self.now in is_free p.free q ≡ true) (pages_of c.in_ok-head.head)
free g c = let p = c.args.self.now in were_free p.limit p.free p.sized p.first_kept p.second_kept _ (pages_of c.in_ok-head.head) (named g c)

kept : (g : Over) (c : After-keep_head g) (pages : List ℕ) → (let p = c.args.self.now in AreClaimed p.free pages) → AreClaimed c.keep_head.new.self pages
kept g c pages = let p = c.args.self.now in kept_claimed (pages_of c.in_ok-head.head) p.free c.keep_head.new.self (free g c) c.keep_head.ensures pages

pub keep_head-requires : goal.keep_head-requires
keep_head-requires g c =
    let p = c.args.self.now in
    let head = c.in_ok-head.head in
    let is = pages_are p.free (1 + (c.args.size + 511) / 512) c.remove-at.result c.args.size c.in_ok-key.key.items c.in_ok-pages.pages.items c.remove-at.new.self.items head (omega arith)
    c.in_ok-pages.ensures.enough c.in_ok-pages.ensures.pages c.remove-at.ensures.value c.remove-at.ensures.items c.in_ok-head.ensures in
    pool_within p.limit (length p.free) (pages_of head) p.sized (in_pool p.limit p.free p.sized p.first_kept p.second_kept _ (pages_of head) is)

pub invariant_of-self-clause-first_kept : goal.invariant_of-self-clause-first_kept
invariant_of-self-clause-first_kept g c = let p = c.args.self.now in (kept g (goal.at.invariant_of-self-clause-first_kept g c).After-keep_head (0 ∷ []) (p.first_kept, tt)).0

pub invariant_of-self-clause-second_kept : goal.invariant_of-self-clause-second_kept
invariant_of-self-clause-second_kept g c = let p = c.args.self.now in (kept g (goal.at.invariant_of-self-clause-second_kept g c).After-keep_head (1 ∷ []) (p.second_kept, tt)).0

pub invariant_of-self-clause-claimed : goal.invariant_of-self-clause-claimed
invariant_of-self-clause-claimed g c = let p = c.args.self.now in kept g (goal.at.invariant_of-self-clause-claimed g c).After-keep_head (taken p.heads.items) p.claimed

pub invariant_of-self-clause-older_claimed : goal.invariant_of-self-clause-older_claimed
invariant_of-self-clause-older_claimed g c = let p = c.args.self.now in kept g (goal.at.invariant_of-self-clause-older_claimed g c).After-keep_head (taken p.older.items) p.older_claimed

pub returns-clause-planned : goal.returns-clause-planned
returns-clause-planned g c =
    let p = c.args.self.now in
    let head = c.in_ok-head.head in
    let before = (goal.at.returns-clause-planned g c).After-keep_head in
    let is = named g before in
    let long = ap length is ∙ length-take-le (1 + (c.args.size + 511) / 512) (free_pages p.free) c.in_ok-pages.ensures.enough in
    let key : c.in_ok-key.key.items ≡ c.args.key.now = search rules in
    let key_is = ap (λ (h : Head). h.key) c.in_ok-head.ensures ∙ key in
    let size_is = ap (λ (h : Head). h.size) c.in_ok-head.ensures in
    record {
      key_is = key_is;
      size_is = size_is;
      planned = record {
        is_head = record {
          key_least = omega (arith, ap length key_is, c.requires.key_least);
          key_most = omega (arith, ap length key_is, c.requires.key_most);
          size_least = omega (arith, size_is, c.requires.size_least);
          size_most = omega (arith, size_is, c.requires.size_most);
          count = omega (arith, long, size_is);
        };
        pool = in_pool p.limit p.free p.sized p.first_kept p.second_kept _ (pages_of head) is;
        apart = are_apart p.limit p.free p.sized p.first_kept p.second_kept _ (pages_of head) is;
        claimed = c.keep_head.ensures.marked;
        unnamed = clear_by (is_free p.free) true false (λ same. cc) (pages_of head) (taken p.heads.items) (free g before) p.claimed;
        unnamed_before = clear_by (is_free p.free) true false (λ same. cc) (pages_of head) (taken p.older.items) (free g before) p.older_claimed;
      };
      were_free = free g before;
      claims = c.keep_head.ensures;
    }

pub returns-clause-others : goal.returns-clause-others
returns-clause-others g c = λ other was.
    record {
      is_head = was.is_head;
      pool = was.pool;
      apart = was.apart;
      claimed = kept g (goal.at.returns-clause-others g c).After-keep_head (pages_of other) was.claimed;
      unnamed = was.unnamed;
      unnamed_before = was.unnamed_before;
    }
