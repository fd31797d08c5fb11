-- What RULES 17 asks for holds: each field is a law of its subject, with instances in Examples. Assumes nothing.
use Rattle.planning.specs.Requests.{DegreeRequests}
use Rattle.planning.proofs.Degrees.{least_degree_law, no_degree, landing_positions}
use Rattle.planning.proofs.Larger.{next_degree, larger_degree}
use Rattle.planning.proofs.Questions.{degree_passes, positions_kept}

pub degree_requests : DegreeRequests
degree_requests =
    record {
      least_degree_law = least_degree_law;
      none_of_these = no_degree;
      positions = landing_positions;
      next_degree = next_degree;
      larger_degree = larger_degree;
      passes = degree_passes;
      kept = positions_kept;
    }
