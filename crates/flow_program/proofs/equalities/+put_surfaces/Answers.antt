use Rattle.std.proofs.Common.{rules}
use Rattle.std.proofs.lemmas.Bool.{and_parts}
use Rattle.program_listing.specs.declared.listing.SurfaceTermList.{the_lemmas}
use Rattle.flow_program.proofs.equalities.+put_surfaces.Goals as goal

pub put_surface-put_name-requires-in-Applied : goal.put_surface-put_name-requires-in-Applied
put_surface-put_name-requires-in-Applied t c = (and_parts _ _ (rw c.in-Applied.is at c.requires)).0

pub put_surface-put_surfaces-requires : goal.put_surface-put_surfaces-requires
put_surface-put_surfaces-requires t c = (search (rules, the_lemmas), (and_parts _ _ (rw c.in-Applied.is at c.requires)).1)
