use Rattle.std.proofs.Common.{refl}
use Rattle.psu_session.proofs.ReceivedMessages.{fed_all}
use Rattle.psu_session.proofs.parts.Parts.feed.Goals as goal

pub returns-in_ok-feed-in-Sync-clause-fed : goal.returns-in_ok-feed-in-Sync-clause-fed
returns-in_ok-feed-in-Sync-clause-fed c = rw c.in-Sync.is (record {
  channel = c.feed.new.self;
  feeds = fed_all _ _ _ _ _ c.requires c.in_ok-feed-in-Sync.ensures.fed;
  then = refl;
})

pub returns-in_ok-feed-in-Async-clause-fed : goal.returns-in_ok-feed-in-Async-clause-fed
returns-in_ok-feed-in-Async-clause-fed c = rw c.in-Async.is (record {
  channel = c.feed-in-Async.new.self;
  feeds = fed_all _ _ _ _ _ c.requires c.in_ok-feed-in-Async.ensures.fed;
  then = refl;
})
