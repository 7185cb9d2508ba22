use Rattle.study.proofs.Holding.{all_held, all_numbers, all_bytes}
use Rattle.api.proofs.memory.hold.Goals as goal

pub returns : goal.returns
returns c = (
  all_bytes c.args.b.now (λ i. (c.type_inv.b i).fits),
  record {
    electric = all_held c.args.e.now c.type_inv.e;
    magnetic = all_held c.args.h.now c.type_inv.h;
    media = all_held c.args.media.now c.type_inv.media;
    psi_e = all_held c.args.psi_e.now c.type_inv.psi_e;
    psi_h = all_held c.args.psi_h.now c.type_inv.psi_h;
    tables = all_held c.args.tables.now c.type_inv.tables;
    poles = all_held c.args.poles.now c.type_inv.poles;
    aux = all_held c.args.aux.now c.type_inv.aux;
    ids = all_numbers c.args.ids.now (λ i. (c.type_inv.ids i).fits);
  },
)
