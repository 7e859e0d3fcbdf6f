use Rattle.nesl_tests_runs.proofs.main.Given as goal

abbrev pub ghosts-try_parts : goal.ghosts-try_parts
ghosts-try_parts g a = record { name = a.blank.name; parts = a.blank.parts }
