use Rattle.std.proofs.Common.{◌∙◌}
use Rattle.psu_disk.specs.Memory.{memory}
use Rattle.psu_disk.specs.Ranges.{left_size}
use Rattle.psu_store_tests.proofs.faulty_file.FaultyFileFileCalls.sync_data.Goals as goal

pub returns-then-is_err-clause-extent : goal.returns-then-is_err-clause-extent
returns-then-is_err-clause-extent g c =
    let medium = c.sync-answer.new.self in
    left_size (memory medium.bytes.items medium.at_risk.items) c.lose.new.self.bytes.items c.lose.ensures.left ∙ c.sync-answer.ensures.extent
