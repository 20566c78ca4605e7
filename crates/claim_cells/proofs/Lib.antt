mod Rules
mod SeatSteps
