use Rattle.fr_latency.proofs.way.+append_way.Given as goal

abbrev pub decreases-append_way : goal.decreases-append_way
decreases-append_way l = l.earlier
