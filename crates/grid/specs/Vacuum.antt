-- The constants of vacuum by which a record is stepped and read: those of the set that its field `constants` names (document 02, S-7). Definitions only.
use Rattle.std.specs.Prelude.{Float}
use Rattle.root.specs.Constants.{vacuum_of}
use Rattle.grid.specs.declared.Record.{Record}

abbrev pub eps_of : Record → Float
eps_of r = (vacuum_of r.constants).eps0

abbrev pub mu_of : Record → Float
mu_of r = (vacuum_of r.constants).mu0

abbrev pub light_of : Record → Float
light_of r = (vacuum_of r.constants).c0
