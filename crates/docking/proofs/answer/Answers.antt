-- `docking::answer`: by what the call was found to be.
use Rattle.std.proofs.Common.{refl, ◌∙◌}
use Rattle.docking.proofs.Calls.{at_kind, sent-told, scsi_told, ata_told}
use Rattle.docking.specs.declared.Said.TheVariants as said
use Rattle.docking.proofs.answer.Goals as goal

pub returns-in-Send : goal.returns-in-Send
returns-in-Send c = (
  at_kind _ _ (said.Sent c.of.result) c.in-Send.is refl,
  sent-told c.args.d c.args.call c.args.source.now c.args.lent.now c.send.new.buf c.in-Send.s c.of.result c.in-Send.is (c.of.ensures.told c.send.new.buf ∙ c.send.ensures),
)

pub returns-in-ToScsi : goal.returns-in-ToScsi
returns-in-ToScsi c = (
  at_kind _ _ (said.ToScsi c.to_scsi.result) c.in-ToScsi.is refl,
  scsi_told c.args.d c.args.call c.args.source.now c.args.lent.now c.to_scsi.new.buf c.in-ToScsi.q c.to_scsi.result c.in-ToScsi.is c.to_scsi.ensures,
)

pub returns-in-ToAta : goal.returns-in-ToAta
returns-in-ToAta c = (
  at_kind _ _ (said.ToAta c.to_ata.result) c.in-ToAta.is refl,
  ata_told c.args.d c.args.call c.args.source.now c.args.lent.now c.to_ata.new.buf c.in-ToAta.t c.to_ata.result c.in-ToAta.is c.to_ata.ensures,
)
