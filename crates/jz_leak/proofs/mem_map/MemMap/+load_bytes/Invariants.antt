use Rattle.jz_leak.proofs.mem_map.MemMap.+load_bytes.Given as goal

abbrev pub decreases-load_bytes : goal.decreases-load_bytes
decreases-load_bytes l = l.count
