use Rattle.cli_hosted.proofs.Begun.{begun_by_of}
use Rattle.cli_hosted.proofs.session.Session.open_by.Goals as goal

pub returns : goal.returns
returns c =
    begun_by_of _ _ _ _ _ _ _ _ _ c.in-Ok.ensures c.held.result (λ b. b.value) _ _ _ _ _ c.new-replies.ensures.items c.set_up_by-node.ensures.opened c.set_up_by-node.ensures.as_many c.held.ensures
