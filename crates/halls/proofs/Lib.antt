mod GhostSteps
mod ShownConnections
