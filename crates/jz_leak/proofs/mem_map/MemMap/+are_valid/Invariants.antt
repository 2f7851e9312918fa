use Rattle.jz_leak.proofs.mem_map.MemMap.+are_valid.Given as goal

abbrev pub decreases-are_valid : goal.decreases-are_valid
decreases-are_valid l = l.count
