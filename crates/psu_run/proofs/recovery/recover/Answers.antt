use Rattle.std.proofs.lemmas.Result.{IfOk-weaker}
use Rattle.psu_run.proofs.Common.{arith, refl, ◌≡◌, ◌∙◌, ℕ, List, IfErr, Result, Contents, HasReadableRoot, NotStarted, RecoverFault, start_of, items_of, represents_readable}
use Rattle.psu_exec.specs.declared.idle_store.IdleStore.TheVariants as idle_store
use Rattle.psu_exec.specs.declared.start_cause.StartFault.TheVariants.{Memory}
use Rattle.psu_status.specs.Status.{first_request}
use Rattle.psu_run.specs.Recover.{Reports}
use Rattle.psu_run.proofs.recovery.recover.Goals as goal

pub returns-in-Ok-power_on-clause-found : goal.returns-in-Ok-power_on-clause-found
returns-in-Ok-power_on-clause-found g c = λ h.
    let contents : Contents = c.in-Ok-power_on.exec.device.flush.contents in
    let found : items_of contents ≡ c.in-Ok.store.items = c.in-Ok-power_on.ensures.found in
    IfOk-weaker c.report_of.result (Reports contents (first_request c.in-Ok-power_on.exec.device.volatile.instrument.status) c.version-version.result c.number-root.result c.limit-limit.result c.cost-pages.result) _ (λ r is. record {
      contents = contents;
      sound = c.in-Ok-power_on.ensures.sound;
      fitting = rw (is.limit_is, c.limit-limit.ensures.value) c.in-Ok-power_on.ensures.fitting;
      stands = rw (is.limit_is, c.limit-limit.ensures.value, found) (c.in-Ok.ensures.represented h);
      reports = record {
        version_is = let version = c.in-Ok.ensures.version h in let read = is.version_is in grind arith;
        root_is = let root = c.in-Ok.ensures.number h in let read = is.root_is in grind arith;
        limit_is = refl;
        pages_is = let read = is.pages_is in grind arith;
        enables = is.enables;
        request_is = is.request_is ∙ c.in-Ok-power_on.ensures.request;
        user = is.user;
        macros = is.macros;
        files = is.files;
        recall = is.recall;
      };
    }) c.report_of.ensures.reports

pub returns-in-Err-power_on-clause-refused : goal.returns-in-Err-power_on-clause-refused
returns-in-Err-power_on-clause-refused g c = λ h.
    let stands = c.in-Ok.ensures.represented h in
    let rooted = represents_readable (g.D.Disk.state c.args.disk).bytes c.in-Ok.store.limit c.in-Ok.store.items stands in grind arith

-- a report for which memory is refused
no_memory : {A : Type 0} (r : Result A RecoverFault) (image : List ℕ) (before now : ℕ) → IfErr r (λ e. start_of e ≡ Memory) → now ≡ before → HasReadableRoot image → IfErr r (λ e. NotStarted image before now (start_of e))
no_memory x0 image before now is same rooted = grind arith

pub returns-in-Ok-power_on-clause-refused : goal.returns-in-Ok-power_on-clause-refused
returns-in-Ok-power_on-clause-refused g c = λ h.
    let same = c.disk_of.ensures (idle_store.Whole c.in-Ok.store) c.in-Ok-power_on.ensures.idle_store in let step = c.in-Ok.ensures.step in
    let rooted = represents_readable (g.D.Disk.state c.args.disk).bytes c.in-Ok.store.limit c.in-Ok.store.items (c.in-Ok.ensures.represented h) in
    no_memory c.report_of.result _ _ _ c.report_of.ensures.wants (grind arith) rooted

pub returns-in-Err-clause-left : goal.returns-in-Err-clause-left
returns-in-Err-clause-left g c = λ h limit map each. (c.in-Err.ensures.left limit map each).left h

pub returns-in-Ok-power_on-clause-step : goal.returns-in-Ok-power_on-clause-step
returns-in-Ok-power_on-clause-step g c =
    let same = c.disk_of.ensures (idle_store.Whole c.in-Ok.store) c.in-Ok-power_on.ensures.idle_store in let step = c.in-Ok.ensures.step in
    grind arith

pub returns-in-Ok-power_on-clause-left : goal.returns-in-Ok-power_on-clause-left
returns-in-Ok-power_on-clause-left g c = λ h limit map each. rw (c.disk_of.ensures (idle_store.Whole c.in-Ok.store) c.in-Ok-power_on.ensures.idle_store) ((c.in-Ok.ensures.left limit map each).left h)

pub returns-in-Err-power_on-clause-left : goal.returns-in-Err-power_on-clause-left
returns-in-Err-power_on-clause-left g c = λ h limit map each. rw (c.into_disk.ensures.value, c.in-Err-power_on.ensures.back) ((c.in-Ok.ensures.left limit map each).left h)
