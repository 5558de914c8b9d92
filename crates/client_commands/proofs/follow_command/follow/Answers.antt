use Rattle.std.proofs.Common.{List, ℕ, Option, refl, subst}
use Rattle.std.specs.Prelude.{Ok, Err}
use Rattle.client_follower.specs.Starts.{StartsFollower}
use Rattle.client_commands.specs.FollowCommand.{fails_to_start, starts}
use Rattle.client_commands.proofs.follow_command.follow.Goals as goal

pub returns-in-Ok : goal.returns-in-Ok
returns-in-Ok g c = record {
  follows_document =
      let peer = g.C.Line.state in
      starts c.in-Ok.follower (peer c.start.new.peer)
      (subst (λ (user : Option (List ℕ)). StartsFollower (record { root = c.args.requester.now.root; user = user; doc = c.args.doc.now }) (peer c.args.peer.now) (peer c.start.new.peer) (Ok c.in-Ok.follower)) c.user.ensures.exact c.in-Ok.ensures.starts_follower)
      c.follow_rounds.ensures.follows_on;
}

pub returns-in-Err : goal.returns-in-Err
returns-in-Err g c = record {
  follows_document =
      let peer = g.C.Line.state in
      fails_to_start c.in-Err.fault
      (subst (λ (user : Option (List ℕ)). StartsFollower (record { root = c.args.requester.now.root; user = user; doc = c.args.doc.now }) (peer c.args.peer.now) (peer c.start.new.peer) (Err c.in-Err.fault)) c.user.ensures.exact c.in-Err.ensures.starts_follower)
      refl refl;
}
