-- The code's values as the definitions see them.
use Rattle.std.specs.Prelude.{Option, Some, None, List, map}
use Rattle.psu_messages.specs.Units.{source_of}
use Rattle.psu_session.specs.Orders as orders
use Rattle.psu_session.specs.State as state
use Rattle.psu_session.specs.declared.queue.Order.{Order}
use Rattle.psu_session.specs.declared.queue.Release.{Release}
use Rattle.psu_session.specs.declared.queue.Work.{Work}
use Rattle.psu_session.specs.declared.queue.Work.TheVariants as work
use Rattle.psu_session.specs.declared.queue.Running.{Running}
use Rattle.psu_session.specs.declared.parts.Parts.{Parts}

abbrev pub order_of : Order → orders.Order
order_of order = record { origin = order.origin; source = source_of order.input }

abbrev pub work_of : Work → state.Work
work_of (work.Execute order) = state.Execute (order_of order)
work_of work.Release = state.ReleaseLock

abbrev pub works_of : List Work → List state.Work
works_of works = map work_of works

abbrev pub release_of : Release → state.Release
release_of release = record { number = release.number; requested_at = release.requested_at }

abbrev pub releases_of : List Release → List state.Release
releases_of releases = map release_of releases

abbrev pub one_running : Running → state.Running
one_running running = record {
  order = record { origin = running.origin; source = running.transmission.source };
  progress = running.transmission.progress;
}

abbrev pub running_of : Option Running → Option state.Running
running_of None = None
running_of (Some running) = Some (one_running running)

abbrev pub state_of : Parts → state.SessionState
state_of parts = record {
  sync_channel = parts.sync_channel;
  async_channel = parts.async_channel;
  core = parts.core;
  waiting = works_of parts.waiting.items;
  releases = releases_of parts.releases.items;
  last = parts.last;
  running = running_of parts.running;
  lock_waits = parts.lock_waits;
  sync = parts.sync_output.items;
  async = parts.async_output.items;
  sync_writes = parts.sync_writes;
  async_writes = parts.async_writes;
  held = parts.held.out;
  owed = parts.owed.out;
}
