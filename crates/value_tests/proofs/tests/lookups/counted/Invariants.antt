use Rattle.value_tests.proofs.tests.lookups.counted.Given as goal

abbrev pub ghosts-found_anew : goal.ghosts-found_anew
ghosts-found_anew a = record { name = a.blank.name; parts = a.blank.parts }
