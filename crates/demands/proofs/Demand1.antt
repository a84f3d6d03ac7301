-- Demand 1, put together.
use Rattle.calls.proofs.Lists.{refused_list_leaves}
use Rattle.calls.proofs.Refusals.{refusal_leaves_both}
use Rattle.conduct.proofs.EveryCall.{refusal_leaves}
use Rattle.convert.proofs.Outcomes as convert
use Rattle.paper.proofs.Output.{refusal_writes_nothing}
use Rattle.status.proofs.EveryPage.{refusal_leaves_bytes}
use Rattle.sender.proofs.Sending.{unsent_leaves_bytes}
use Rattle.demands.specs.Demand1.{Demand1}

pub demand_1 : Demand1
demand_1 =
    record {
      changing = refusal_leaves;
      command = refusal_leaves_both;
      showing = refusal_leaves_bytes;
      sending = unsent_leaves_bytes;
      converting = convert.refusal_leaves_bytes;
      making = refused_list_leaves;
      printing = refusal_writes_nothing;
    }
