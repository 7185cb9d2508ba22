use Rattle.std.proofs.Common.{sym}
use Rattle.lines.proofs.Study.{read_sound}
use Rattle.lines.proofs.listed.Goals as goal

pub fits_listing-requires : goal.fits_listing-requires
fits_listing-requires c = read_sound _ (λ i. (c.type_inv.b i).fits) (sym c.in_ok-bytes_fault.ensures) _ c.get_record-r.ensures
