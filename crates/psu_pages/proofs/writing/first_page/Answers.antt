use Rattle.std.proofs.Common.{sym, arith}
use Rattle.std.proofs.lemmas.List.{take_all, drop_all}
use Rattle.psu_pages.proofs.writing.first_page.Goals as goal

pub returns-then-bytes-lt-PAGE_SIZE-clause-first : goal.returns-then-bytes-lt-PAGE_SIZE-clause-first
returns-then-bytes-lt-PAGE_SIZE-clause-first c = sym (take_all 512 c.args.bytes.now (omega (arith, c.if-bytes-lt-PAGE_SIZE.true)))

pub returns-then-bytes-lt-PAGE_SIZE-clause-rest : goal.returns-then-bytes-lt-PAGE_SIZE-clause-rest
returns-then-bytes-lt-PAGE_SIZE-clause-rest c = sym (drop_all 512 c.args.bytes.now (omega (arith, c.if-bytes-lt-PAGE_SIZE.true)))
