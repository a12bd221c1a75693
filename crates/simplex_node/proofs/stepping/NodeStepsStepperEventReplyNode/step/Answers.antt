use Rattle.simplex_node.proofs.stepping.NodeStepsStepperEventReplyNode.step.Goals as goal

pub returns : goal.returns
returns g c = record {
  ok = c.step.ensures.ok;
  failed = c.step.ensures.failed;
  refused_if_failed = c.step.ensures.refused_if_failed;
  failed_before = c.step.ensures.failed_before;
  device = c.step.ensures.device;
  no_device = c.step.ensures.no_device;
  no_fault = c.step.ensures.no_fault;
  any_moment = c.step.ensures.any_moment;
}
