use Rattle.std.proofs.Common.{ℕ, List, sym, subst}
use Rattle.psu_map.specs.Map.{Item, IsSorted}
use Rattle.psu_map.specs.Capacity.{IsMapOf}
use Rattle.psu_pages.specs.Image.{IsInPool}
use Rattle.psu_items.specs.Image.{shown_in}
use Rattle.psu_items.proofs.Sparing.{none_shown}
use Rattle.psu_items.proofs.Standing.{pages_on_disk}
use Rattle.psu_items.proofs.store.Store.format.Goals as goal

pub invariant_of-result : goal.invariant_of-result
invariant_of-result g c =
    let p = c.in-Ok.pages in
    let fresh = c.in-Ok.ensures.fresh in
    record {
      shows = record {
        one = fresh.standing;
        sorted = subst IsSorted (sym c.new.ensures) tt;
        holds = λ h. subst (λ (m : List Item). IsMapOf m (shown_in p.root (g.D.Disk.state p.disk).bytes)) (sym c.new.ensures) (none_shown p.root (g.D.Disk.state p.disk).bytes (c.in-Ok.ensures.empty h));
      };
      spare = λ page pool none. fresh.free page (subst (λ (n : ℕ). IsInPool n page) fresh.limit_is pool);
      confirmed = c.in-Ok.ensures.confirmed;
    }

pub returns-in-Ok-clause-represents : goal.returns-in-Ok-clause-represents
returns-in-Ok-clause-represents g c = pages_on_disk c.in-Ok.pages c.new.result (let kept = invariant_of-result g c in kept.shows)
