-- What RULES 22 says holds: each field is a law of its subject, with instances in Examples. Assumes nothing.
use Rattle.classification.specs.Requests.{ClassesRequests}
use Rattle.classification.proofs.Classes.{classified, totalled, nothing_for_no_file}
use Rattle.classification.proofs.Progress.{goes, prints}
use Rattle.classification.proofs.Cut.{first_bytes_law}
use Rattle.classification.proofs.Examples.{example}

pub classes_requests : ClassesRequests
classes_requests =
    record {
      classes = classified;
      totals = totalled;
      no_file = nothing_for_no_file;
      example = example;
      prints = prints;
      goes = goes;
      first_bytes_law = first_bytes_law;
    }
