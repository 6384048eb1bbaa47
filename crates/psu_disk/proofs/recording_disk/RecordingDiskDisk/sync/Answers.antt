use Rattle.std.proofs.Common.{◌∙◌, ◌∷◌, ◌++◌, [], List, ℕ, Bool, ap}
use Rattle.psu_disk.specs.Memory.{memory}
use Rattle.psu_disk.proofs.Kept.{elapses_to}
use Rattle.psu_disk.proofs.recording_disk.RecordingDiskDisk.sync.Goals as goal

pub returns-in-Ok-clause-time : goal.returns-in-Ok-clause-time
returns-in-Ok-clause-time g c = λ _.
    let s = c.args.self.now in
    elapses_to s.past.items c.remember.new.past.items (memory s.bytes.items s.unsynced.items) (memory s.bytes.items c.fill.new.self.items)
    (c.in-Ok.ensures.ok ∙ ap (λ (l : List ℕ). s.past.items ++ memory l c.deref-2.result.now ∷ []) c.deref.ensures.value ∙ ap (λ (l : List Bool). s.past.items ++ memory s.bytes.items l ∷ []) c.deref-2.ensures.value)
