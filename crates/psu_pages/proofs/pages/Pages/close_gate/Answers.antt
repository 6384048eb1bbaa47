use Rattle.std.proofs.Common.{List, sym, ◌∙◌, arith, subst, ◌≡◌, length}
use Rattle.psu_disk.specs.Disk.{SameBut}
use Rattle.psu_disk.specs.Moments.{started}
use Rattle.psu_pages.specs.Free.{IsRoster, AreClaimed}
use Rattle.psu_pages.specs.Image.{other, gate_at, taken, pages_of, Head, IsNone, AreClear}
use Rattle.psu_pages.specs.Outcome.{EncodesPages}
use Rattle.psu_pages.specs.Shown.{items_in}
use Rattle.psu_pages.proofs.Lists.{clear_swap}
use Rattle.psu_pages.proofs.Marking.{claimed_beside}
use Rattle.psu_pages.proofs.Planning.{none_root, pool_within}
use Rattle.psu_pages.proofs.Publishing.{Keeps, closing, shut_zero, still_left, still_run, still_shown, still_encodes}
use Rattle.psu_pages.specs.declared.standing.Standing.TheVariants.{One, Both}
use Rattle.psu_pages.proofs.pages.Pages.close_gate.Given.{Over}
use Rattle.psu_pages.proofs.pages.Pages.close_gate.Goals.{After-set_gate}
use Rattle.psu_pages.proofs.pages.Pages.close_gate.Goals as goal

keeps : (g : Over) (c : After-set_gate g) → g.D.Disk.honest
    → let p = c.args.self.now in Keeps g.D.Disk.state p.root p.version p.limit p.number p.heads.items (SameBut (gate_at (other p.root)) 1) p.disk c.set_gate.new.disk
keeps g c h =
    let p = c.args.self.now in
    let now = g.D.Disk.state p.disk in
    record {
      each = closing now p.root p.version p.limit p.number p.heads.items (items_in p.root now.bytes) (p.encodes h c.requires.sure) (p.lower h c.in-Both.is);
      step = rw (← c.other.ensures) (c.set_gate.ensures.left.left h);
      seen = rw (← c.other.ensures) (c.set_gate.ensures.seen h);
    }

pub returns-in_default-clause-left : goal.returns-in_default-clause-left
returns-in_default-clause-left g c = record {
  left = λ h x l. let p = c.args.self.now in p.encodes h c.requires.sure x l;
  time = λ h t.
      let d = g.D.Disk in
      let p = c.args.self.now in
      started d.moment d.left_since p.disk (EncodesPages p) (λ x l. p.encodes h c.requires.sure x (g.met.D.Disk.only_now t p.disk x l));
}

pub returns-in_err-set_gate-clause-left : goal.returns-in_err-set_gate-clause-left
returns-in_err-set_gate-clause-left g c = record {
  left = λ h. still_left (keeps g (goal.at.returns-in_err-set_gate-clause-left g c).After-set_gate h);
  time = λ h t. still_run (keeps g (goal.at.returns-in_err-set_gate-clause-left g c).After-set_gate h) (rw (← c.other.ensures) (c.set_gate.ensures.left.time h t));
}

pub returns-in_err-set_gate-clause-touched : goal.returns-in_err-set_gate-clause-touched
returns-in_err-set_gate-clause-touched g c = record {
  left = λ h. rw (← c.other.ensures) (c.set_gate.ensures.left.left h);
  time = λ h t. rw (← c.other.ensures) (c.set_gate.ensures.left.time h t);
}

pub returns-clause-left : goal.returns-clause-left
returns-clause-left g c = record {
  left = λ h. still_left (keeps g (goal.at.returns-clause-left g c).After-set_gate h);
  time = λ h t. still_run (keeps g (goal.at.returns-clause-left g c).After-set_gate h) (rw (← c.other.ensures) (c.set_gate.ensures.left.time h t));
}

pub returns-clause-touched : goal.returns-clause-touched
returns-clause-touched g c = record {
  left = λ h. rw (← c.other.ensures) (c.set_gate.ensures.left.left h);
  time = λ h t. rw (← c.other.ensures) (c.set_gate.ensures.left.time h t);
}

pub returns-clause-shown : goal.returns-clause-shown
returns-clause-shown g c = λ h. still_shown (keeps g (goal.at.returns-clause-shown g c).After-set_gate h)

pub invariant_of-self-2-clause-first_kept : goal.invariant_of-self-2-clause-first_kept
invariant_of-self-2-clause-first_kept g c =
    let p = c.args.self.now in
    c.hand_over.ensures.others 0 (subst (λ (hs : List Head). IsNone (taken hs) 0) (sym c.deref.ensures.value) (none_root p.limit (taken p.older.items) 0 (omega arith) p.older_roster.pool)) ∙ p.first_kept

pub invariant_of-self-2-clause-second_kept : goal.invariant_of-self-2-clause-second_kept
invariant_of-self-2-clause-second_kept g c =
    let p = c.args.self.now in
    c.hand_over.ensures.others 1 (subst (λ (hs : List Head). IsNone (taken hs) 1) (sym c.deref.ensures.value) (none_root p.limit (taken p.older.items) 1 (omega arith) p.older_roster.pool)) ∙ p.second_kept

pub invariant_of-self-2-clause-older_roster : goal.invariant_of-self-2-clause-older_roster
invariant_of-self-2-clause-older_roster g c =
    let p = c.args.self.now in
    subst (IsRoster p.limit) (sym c.clear.ensures.items) (record { each = tt; pool = tt; apart = tt; count = omega arith; cost = omega arith; distinct = tt })

pub invariant_of-self-2-clause-encodes : goal.invariant_of-self-2-clause-encodes
invariant_of-self-2-clause-encodes g c = λ h sure. still_encodes (keeps g (goal.at.invariant_of-self-2-clause-encodes g c).After-set_gate h)

pub invariant_of-self-2-clause-shut : goal.invariant_of-self-2-clause-shut
invariant_of-self-2-clause-shut g c = λ h one. rw (← c.other.ensures) (shut_zero (g.D.Disk.state c.set_gate.new.disk) c.other.result (c.in_ok-set_gate.ensures.synced h) (c.in_ok-set_gate.ensures.done h))

pub returns-clause-planned : goal.returns-clause-planned
returns-clause-planned g c = λ head was.
    let p = c.args.self.now in
    record {
      is_head = was.is_head;
      pool = was.pool;
      apart = was.apart;
      claimed = claimed_beside (taken c.deref.result.now) (pages_of head) p.free c.hand_over.new.free c.hand_over.ensures.others was.claimed
          (clear_swap (pages_of head) (taken c.deref.result.now) (subst (λ (hs : List Head). AreClear (pages_of head) (taken hs)) (sym c.deref.ensures.value) was.unnamed_before));
      unnamed = was.unnamed;
      unnamed_before = subst (λ (hs : List Head). AreClear (pages_of head) (taken hs)) (sym c.clear.ensures.items) tt;
    }

pub hand_over-requires-clause-there : goal.hand_over-requires-clause-there
hand_over-requires-clause-there g c = let p = c.args.self.now in rw c.deref.ensures.value (pool_within p.limit (length p.free) (taken p.older.items) p.sized p.older_roster.pool)

pub hand_over-requires-clause-heads_there : goal.hand_over-requires-clause-heads_there
hand_over-requires-clause-heads_there g c = let p = c.args.self.now in rw c.deref-2.ensures.value (pool_within p.limit (length p.free) (taken p.heads.items) p.sized p.roster.pool)

pub invariant_of-self-2-clause-claimed : goal.invariant_of-self-2-clause-claimed
invariant_of-self-2-clause-claimed g c = subst (λ (hs : List Head). AreClaimed c.hand_over.new.free (taken hs)) c.deref-2.ensures.value c.hand_over.ensures.kept

pub invariant_of-self-2-clause-lower : goal.invariant_of-self-2-clause-lower
invariant_of-self-2-clause-lower g c = λ h both. let no : One ≡ Both = both in absurd (cc)

pub returns-clause-zero : goal.returns-clause-zero
returns-clause-zero g c = λ h both. rw (← c.other.ensures) (c.in_ok-set_gate.ensures.done h)
