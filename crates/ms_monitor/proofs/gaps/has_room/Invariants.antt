use Rattle.ms_monitor.proofs.gaps.has_room.Given as goal

abbrev pub ghosts-has_room_counted : goal.ghosts-has_room_counted
ghosts-has_room_counted a = record { name = a.blank.name; parts = a.blank.parts }
