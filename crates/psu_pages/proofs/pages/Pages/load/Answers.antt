use Rattle.psu_pages.proofs.Publishing.{pool_room}
use Rattle.psu_pages.proofs.pages.Pages.load.Goals as goal

pub read_value-requires-clause-room : goal.read_value-requires-clause-room
read_value-requires-clause-room g c = let p = c.args.self.now in pool_room p.limit (g.D.Disk.extent p.disk) (let head = c.args.head.now in head.pages) p.room c.requires.pool
