use Rattle.nesl_service.proofs.service.serve_by.Given as goal

abbrev pub ghosts-serve_in : goal.ghosts-serve_in
ghosts-serve_in g a = record { name = a.blank.name; parts = a.blank.parts }
