use Rattle.std.proofs.Common.{◌++◌, take, drop, sym, ap, ◌∙◌, append_assoc, take-append-drop}
use Rattle.std.proofs.lemmas.List.{take_rest}
use Rattle.std.proofs.KnownBytes.{Appends-trans}
use Rattle.node_wire.proofs.replying.put_out.Goals as goal

pub loop-rest-preserved : goal.loop-rest-preserved
loop-rest-preserved g c =
    let ((front, split, appended), same) = c.loop-rest.invariant in
    let count = c.in_ok-count.count in
    let rest = c.loop-rest.rest.now in (
      (
        front ++ take count rest,
        split
            ∙ ap (λ t. front ++ t) (sym (take-append-drop count rest))
            ∙ sym (append_assoc front (take count rest) (drop count rest))
            ∙ ap (λ t. (front ++ take count rest) ++ t) (sym (take_rest rest count)),
        Appends-trans _ _ _ _ _ appended c.in_ok-count.ensures.bytes,
      ),
      c.in_ok-count.ensures.cause ∙ same,
    )
