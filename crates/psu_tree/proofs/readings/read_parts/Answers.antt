use Rattle.psu_tree.specs.Path.{words_of}
use Rattle.psu_tree.proofs.UnitReadings.{undefined}
use Rattle.psu_tree.proofs.readings.read_parts.Goals as goal

pub returns-then-not-add_words-clause-reads : goal.returns-then-not-add_words-clause-reads
returns-then-not-add_words-clause-reads c = λ given (h, is, e, shows, holds).
    (h, is, e, undefined (words_of c.args.path.now h) h.asks c.add_words.result _ given.parameters (c.add_words.ensures h is shows) c.if-not-add_words.true)
