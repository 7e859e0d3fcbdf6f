use Rattle.nesl_tests_service.proofs.at_once.two_users_are_served_at_once.Given as goal

abbrev pub ghosts-serve_both : goal.ghosts-serve_both
ghosts-serve_both g a = record { name = a.blank.name; parts = a.blank.parts }
