-- The image is that of the bank after the call, and the tables lie where they lay.
use Rattle.host_calls.proofs.Left.{made}
use Rattle.host_calls.proofs.make.Goals as goal

pub returns : goal.returns
returns c = made _ _ _ _ c.packed.ensures c.encode.ensures c.step_parts-y.ensures
